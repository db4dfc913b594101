-- What stands for apartments, objects, methods, failures and values is closed.
use Rattle.std.proofs.Common.{None, Option, Some, codes, refl, ℕ, ℤ, ◌==◌}
use Rattle.com_base.specs.declared.hresult.HResult.{HResult}
use Rattle.com_base.specs.declared.value.Value.{Value}
use Rattle.com_classes.specs.Lookups.{method_at}
use Rattle.com_classes.specs.Tables.{Tables}
use Rattle.com_classes.specs.declared.interfaces.Method.{Method}
use Rattle.com_model.specs.Answers.{is_failure}
use Rattle.com_draw_names.specs.Failures.{failure_if, failure_text}
use Rattle.com_draw_names.specs.Filters.{later_words, verdict_verb}
use Rattle.com_draw_names.specs.Names.{object_text, place_at, place_text, shown_called, shown_method, shown_method_or}
use Rattle.com_draw_names.specs.Values.{shown_given, shown_value, value_words}
use Rattle.com_draw_names.specs.declared.contexts.Caller.{Caller}
use Rattle.com_filter.specs.declared.Verdict.TheVariants as verdict
use Rattle.com_filter.specs.declared.Verdict.{Verdict}
use Rattle.com_laws_markup.proofs.Leading.{both, either, numbered, said}
use Rattle.com_laws_markup.proofs.Words.{closed_escaped, closed_none}
use Rattle.com_laws_markup.specs.Closed.{IsClosed}
use Rattle.com_laws_page.proofs.Numbers.{closed_gloss, closed_signed}

pub closed_failure_text : (version : ℕ) (hr : HResult) → IsClosed (failure_text version hr)
closed_failure_text version hr = both (said (codes ": ") refl) (closed_gloss version hr)

pub closed_failure_if : (version : ℕ) (hr : HResult) → IsClosed (failure_if version hr)
closed_failure_if version hr = either (is_failure hr) (closed_failure_text version hr) closed_none

pub closed_place_text : (a : ℕ) → IsClosed (place_text a)
closed_place_text a = either (a == 0) (said (codes "NTA a0") refl) (either (a == 1) (said (codes "MTA a1") refl) (either (a == 2) (said (codes "host STA a2") refl) (numbered (said (codes "STA a") refl) a)))

pub closed_place_at : (number : Option ℕ) → IsClosed (place_at number)
closed_place_at None = said (codes "-") refl
closed_place_at (Some a) = closed_place_text a

pub closed_object_text : (number : Option ℕ) → IsClosed (object_text number)
closed_object_text None = said (codes "null") refl
closed_object_text (Some o) = numbered (said (codes "o") refl) o

pub closed_shown_method_or : (m : ℕ) (k : Option Method) → IsClosed (shown_method_or m k)
closed_shown_method_or m None = numbered (said (codes "#") refl) m
closed_shown_method_or m (Some k) = closed_escaped k.name

pub closed_shown_method : (t : Tables) (iface : ℕ) (method : ℕ) → IsClosed (shown_method t iface method)
closed_shown_method t i m = closed_shown_method_or m (method_at t i m)

pub closed_shown_called : (t : Tables) (caller : Option Caller) → IsClosed (shown_called t caller)
closed_shown_called t None = closed_none
closed_shown_called t (Some k) = closed_shown_method t k.iface k.method

pub closed_verdict_verb : (v : Verdict) → IsClosed (verdict_verb v)
closed_verdict_verb verdict.Rejected = said (codes "rejects") refl
closed_verdict_verb verdict.Later = said (codes "puts off") refl
closed_verdict_verb verdict.Handled = said (codes "takes") refl

pub closed_later_words : (n : ℤ) → IsClosed (later_words n)
closed_later_words n = both (both (said (codes " again in ") refl) (closed_signed n)) (said (codes " ms") refl)

pub closed_shown_value : (v : Value) → IsClosed (shown_value v)
closed_shown_value v = both (said (codes ":") refl) (closed_escaped (value_words v))

pub closed_shown_given : (v : Option Value) → IsClosed (shown_given v)
closed_shown_given None = closed_none
closed_shown_given (Some v) = closed_shown_value v
