use Rattle.std.proofs.Common.{◌∙◌, sym}
use Rattle.com_refs.proofs.Finding.{cookies_many}
use Rattle.com_refs.proofs.Refs.cookies.Goals as goal

pub returns-clause-books : goal.returns-clause-books
returns-clause-books c = rw (← c.self.view_is) (c.cookies.ensures ∙ sym (cookies_many c.self.inside.holders))
