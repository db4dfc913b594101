use Rattle.std.proofs.Common.{◌≡◌, ◌∷◌, ap, arith, length, rules}
use Rattle.std.proofs.lemmas.Grind.{common_steps}
use Rattle.com_draw.proofs.Depths.{begun_shallow, has_room, next_shallow}
use Rattle.com_draw.proofs.Passing.{next_count, next_picture, next_text, page_ends}
use Rattle.com_draw.proofs.pages.push_page.Goals as goal

pub entries-init : goal.entries-init
entries-init c = record {
  picture = first_of (search rules, grind (arith, common_steps));
  text = first_of (search rules, grind (arith, common_steps));
  counted = first_of (search rules, grind (arith, common_steps));
  shallow = begun_shallow c.args.scenario.now _ c.in_ok-drawing.ensures.first;
}

pub push_entry-requires : goal.push_entry-requires
push_entry-requires c =
    let parts : c.entries.rest.now ≡ c.in-Some.entry.now ∷ c.in-Some.others.now = search rules in
    let long = ap length parts in
    let counted = c.entries.invariant.counted in
    let few = c.requires.few in
    record {
      room = omega (arith, long, counted, few);
      depth = has_room _ c.in-Some.entry.now.lane c.entries.invariant.shallow (omega (arith, long, counted, few));
    }

pub entries-preserved : goal.entries-preserved
entries-preserved c =
    let parts : c.entries.rest.now ≡ c.in-Some.entry.now ∷ c.in-Some.others.now = search rules in
    record {
      picture = next_picture _ _ _ _ _ _ _ parts c.in_ok-push_entry.ensures.after c.entries.invariant.picture;
      text = next_text _ _ _ _ _ _ _ _ _ parts c.in_ok-push_entry.ensures.after c.in_ok-push_entry.ensures.text c.entries.invariant.text;
      counted = next_count _ _ _ _ _ _ _ parts c.in_ok-push_entry.ensures.after c.entries.invariant.counted;
      shallow = next_shallow _ _ _ _ c.in_ok-push_entry.ensures.after c.entries.invariant.shallow;
    }

pub returns : goal.returns
returns c =
    let none : length c.entries.rest.now ≡ 0 = search rules in
    page_ends _ _ _ _ _ _ _ _ _ c.in_ok-drawing.ensures.text none c.entries.invariant.picture c.entries.invariant.text
    c.in_ok-push_end.ensures
