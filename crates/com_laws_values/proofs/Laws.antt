-- Every legal history of a formed scenario holds and names but references by interfaces of their objects' classes, and texts of
-- characters.
use Rattle.std.proofs.Common.{subst, sym, ap, eqb-true, arith}
use Rattle.std.proofs.lemmas.Bool.{false_from_ne_true}
use Rattle.std.proofs.lemmas.List.Elements.{All-nil}
use Rattle.std.proofs.lemmas.Grind.{common_steps}
use Rattle.std.specs.Prelude.{◌≡◌, refl, ℕ, zero, suc, ◌+◌, ◌≤◌, negsuc, pos, Bool, true, false, cond, ◌==◌, ◌&&◌, List, [], ◌∷◌, Option, Some, None, All, option_map}
use Rattle.com_base.specs.declared.hresult.HResult.{HResult}
use Rattle.com_base.specs.declared.value.RefValue.{RefValue}
use Rattle.com_base.specs.declared.value.Value.{Value}
use Rattle.com_body.specs.declared.operands.Asked.{Asked}
use Rattle.com_body.specs.declared.operands.Asked.TheVariants as asked
use Rattle.com_body.specs.declared.actions.Action.{Action}
use Rattle.com_body.specs.declared.frame.Outcome.{Outcome}
use Rattle.com_classes.specs.Lookups.{has_interface}
use Rattle.com_filter.specs.declared.Verdict.{Verdict}
use Rattle.com_model.specs.declared.deeds.Deed.{Deed}
use Rattle.com_model.specs.declared.deeds.Deed.TheVariants as deed
use Rattle.com_model.specs.declared.deeds.Entry.{Entry}
use Rattle.com_model.specs.declared.deeds.Route.TheVariants as route
use Rattle.com_model.specs.declared.scenario.Scenario.{Scenario}
use Rattle.com_model.specs.Answers.{is_S_OK}
use Rattle.com_model.specs.Lists.{or_else, where_true, number_or_zero}
use Rattle.com_model.specs.Apartments.{running, next_sta, ends_sta}
use Rattle.com_model.specs.Objects.{asked_number, makes, made_or, making, objects, named, class_of, disconnects}
use Rattle.com_model.specs.declared.keeps.Making.{Making}
use Rattle.com_model.specs.Calls.{issues, issue, target, admitted}
use Rattle.com_model.specs.declared.keeps.Issue.{Issue}
use Rattle.com_model.specs.declared.keeps.Admission.{Admission}
use Rattle.com_model.specs.Frames.{scene, taken_in, outcome, action_of, unless_over, actor_in, reference, act}
use Rattle.com_model.specs.Endings.{EndEffect, EndsCall, CutsObject, CutsSta, EndsNone, cuts_object, cuts_sta, end_effect, ends, filtered, can_be_cut, ending, is_leave}
use Rattle.com_model.specs.declared.keeps.Ending.{Ending}
use Rattle.com_model.specs.declared.keeps.Ending.TheVariants.{ByVerdict, ByLeave}
use Rattle.com_model.specs.Places.{ground}
use Rattle.com_model.specs.Books.{books}
use Rattle.com_model.specs.Issue.{own_values, values_or, sent, unread_values}
use Rattle.com_model.specs.Sight.{sight}
use Rattle.com_model.specs.Rules.{legal}
use Rattle.com_model.specs.Safe.{EachEntry}
use Rattle.com_model.specs.Formed.{Formed}
use Rattle.com_model.proofs.Goods.{all-of}
use Rattle.com_model.proofs.Fines.{FineBy, next-fine}
use Rattle.com_model.proofs.Scenes.{faces}
use Rattle.com_model.proofs.Kept.{legal-kept, sight-good, more-objects}
use Rattle.com_laws_values.specs.Held.{IsDeclared, HeldBy, ValueBy, EndingBy, HoldsDeclared, NamesBy, NamesDeclared}
use Rattle.com_laws_values.proofs.Walks.{ActionBy, more-value, more-result, more-action}
use Rattle.com_laws_values.proofs.Scenes.{SceneBy, more-scene, OutBy, Brings, outcome-by, scene-by, first-scene}
use Rattle.com_laws_values.proofs.Packets.{TablesBy, more-tables, ActBy, values-by, closed-by}
use Rattle.com_laws_values.proofs.Deeds.{SeesBy, next-names}

-- ---- what the rules look at

scene-held : (s : Scenario) (h : List Entry) → HoldsDeclared s h → SceneBy (IsDeclared s h) (scene s h)
scene-held s h k = record { scripts = k.scripts; bodies = k.bodies; links = k.links }

tables-held : (s : Scenario) (h : List Entry) → HoldsDeclared s h → TablesBy (IsDeclared s h) (books s h)
tables-held s h k = record { packets = k.packets; cookies = k.cookies }

action-out : (R : RefValue → Type 0) (o : Option Outcome) → OutBy R o → ActBy R (action_of o)
action-out R None p = tt
action-out R (Some r) p = p.action

pub acts-held : (s : Scenario) (h : List Entry) → Formed s → HoldsDeclared s h → (l : ℕ) → ActBy (IsDeclared s h) (act s h l)
acts-held s h f k l = action-out (IsDeclared s h) _ (outcome-by s f (IsDeclared s h) (class_of h) (issue h) (scene s h) (unless_over (actor_in s h l) (outcome s (class_of h) (issue h) (scene s h) (actor_in s h l))) (scene-held s h k))

acts-some : (R : RefValue → Type 0) (o : Option Action) (a : Action) → ActBy R o → o ≡ Some a → ActionBy R a
acts-some R o a p e = subst (ActBy R) e p

unread-held : (P : Value → Type 0) (a : Option Admission) (x : Option Ending) (vs : List Value) → All P vs → All P (unread_values a x vs)
unread-held P None None vs p = p
unread-held P (Some a) x vs p = All-nil P
unread-held P None (Some x) vs p = All-nil P

pub sees-held : (s : Scenario) (h : List Entry) → Formed s → HoldsDeclared s h → SeesBy s (IsDeclared s h) (sight s h)
sees-held s h f k = record {
  acts = λ l a e. acts-some (IsDeclared s h) (act s h l) a (acts-held s h f k l) e;
  unread = λ c. unread-held (ValueBy (IsDeclared s h)) (admitted h c) (ending s h c) (sent s h c) (k.sent c);
  answers = k.answers;
  tables = tables-held s h k;
  asks = λ r i p q. (p.0, q);
}

-- ---- what stays declared

fine-next : (s : Scenario) (h : List Entry) (e : Entry) → Formed s → legal s (e ∷ h) → FineBy (objects h) (faces s) (next_sta h) e.deed
fine-next s h e f q = next-fine s h e.lane e.deed (sight-good s h f (legal-kept s h f q.0)) q.1

later-number : (n k o : ℕ) → k ≡ n + 1 → o ≤ n → k ≡ o → ⊥
later-number n k o e p q = omega (arith, e, p, q)

off : (x y : ℕ) → (x ≡ y → ⊥) → (x == y) ≡ false
off x y f = false_from_ne_true (x == y) (λ t. f (eqb-true x y t))

same-made : (n m y : ℕ) (d : Deed) (o : ℕ) (x : Option Making) → FineBy n m y d → o ≤ n → made_or (makes d) o x ≡ x
same-made n m y (deed.Made (Some k) (Some b) c i hr) o x f p = ap (λ (t : Bool). cond t (Some (record { object = k; apartment = b; class = asked_number c })) x) (off k o (later-number n k o f.0 p))
same-made n m y (deed.Made (Some k) None c i hr) o x f p = refl
same-made n m y (deed.Made None b c i hr) o x f p = refl
same-made n m y _ o x f p = refl

class_in : Option Making → ℕ
class_in x = number_or_zero (option_map (λ (m : Making). m.class) x)

pub same-class : (s : Scenario) (h : List Entry) (e : Entry) (o : ℕ) → Formed s → legal s (e ∷ h) → o ≤ objects h → class_of (e ∷ h) o ≡ class_of h o
unfolding class_in
same-class s h e o f q p = ap class_in (same-made (objects h) (faces s) (next_sta h) e.deed o (making h o) (fine-next s h e f q) p)

at-most : (x y z : ℕ) → x ≤ y → y ≤ z → x ≤ z
at-most x y z p q = omega (arith, p, q)

pub stays-declared : (s : Scenario) (h : List Entry) (e : Entry) → Formed s → legal s (e ∷ h) → (r : RefValue) → IsDeclared s h r → IsDeclared s (e ∷ h) r
stays-declared s h e f q r p = (at-most r.object (objects h) (objects (e ∷ h)) p.0 (more-objects (makes e.deed) (objects h)), subst (λ (k : ℕ). has_interface s.classes k r.iface ≡ true) (sym (same-class s h e r.object f q p.0)) p.1)

-- ---- what an entry brings

own-number : (o : ℕ) → (o == o) ≡ true
own-number o = grind (arith, common_steps)

new-class : (o a : ℕ) (k : Asked) (x : Option Making) → class_in (made_or (Some (record { object = o; apartment = a; class = asked_number k })) o x) ≡ asked_number k
unfolding class_in
new-class o a k x = ap (λ (t : Bool). class_in (cond t (Some (record { object = o; apartment = a; class = asked_number k })) x)) (own-number o)

low-object : (n o : ℕ) → o ≡ n + 1 → o ≤ n + 1
low-object n o e = omega (arith, e)

query-taken : (R : RefValue → Type 0) (o i : ℕ) (hr : HResult) (t : Bool) → is_S_OK hr ≡ t → (is_S_OK hr ≡ true → R (reference o i)) → HeldBy R (cond t (Some (reference o i)) None)
query-taken R o i hr true e f = f e
query-taken R o i hr false e f = tt

made-taken : (s : Scenario) (h : List Entry) (l o a i : ℕ) (k : Asked) (hr : HResult) → o ≡ objects h + 1 → has_interface s.classes (asked_number k) i ≡ true → IsDeclared s (record { lane = l; deed = deed.Made (Some o) (Some a) k (asked.Number i) hr } ∷ h) (reference o i)
unfolding class_in
made-taken s h l o a i k hr e p = (low-object (objects h) o e, subst (λ (c : ℕ). has_interface s.classes c i ≡ true) (sym (new-class o a k (making h o))) p)

taken-held : (s : Scenario) (h : List Entry) (l m y : ℕ) (d : Deed) → ((r : RefValue) → IsDeclared s h r → IsDeclared s (record { lane = l; deed = d } ∷ h) r) → FineBy (objects h) m y d → NamesBy s (IsDeclared s h) d → HeldBy (IsDeclared s (record { lane = l; deed = d } ∷ h)) (taken_in d)
taken-held s h l m y (deed.Made (Some o) (Some b) c (asked.Number i) hr) g f p = made-taken s h l o b i c hr f.0 p
taken-held s h l m y (deed.Made (Some o) (Some b) c (asked.Guid x) hr) g f p = tt
taken-held s h l m y (deed.Made (Some o) None c i hr) g f p = absurd f
taken-held s h l m y (deed.Made None b c i hr) g f p = tt
taken-held s h l m y (deed.Query (Some o) (asked.Number i) hr) g f p = query-taken (IsDeclared s (record { lane = l; deed = deed.Query (Some o) (asked.Number i) hr } ∷ h)) o i hr (is_S_OK hr) refl (λ e. g (reference o i) (p e))
taken-held s h l m y (deed.Query (Some o) (asked.Guid x) hr) g f p = tt
taken-held s h l m y (deed.Query None i hr) g f p = tt
taken-held s h l m y (deed.Unmarshal t None refs hr) g f p = tt
taken-held s h l m y (deed.Unmarshal t (Some r) refs hr) g f p = g r p
taken-held s h l m y (deed.Get t None refs hr) g f p = tt
taken-held s h l m y (deed.Get t (Some r) refs hr) g f p = g r p
taken-held s h l m y _ g f p = tt

brings-held : (s : Scenario) (P Q : RefValue → Type 0) (d : Deed) → ((r : RefValue) → P r → Q r) → NamesBy s P d → Brings Q d
brings-held s P Q (deed.Enter c o a t vs) g p = all-of (ValueBy P) (ValueBy Q) (more-value P Q g) vs p
brings-held s P Q (deed.Back c hr v) g p = more-result P Q g v p
brings-held s P Q _ g p = tt

-- What was named before an entry is named after it.
more-names : (s : Scenario) (P Q : RefValue → Type 0) (d : Deed) → ((r : RefValue) → P r → Q r) → NamesBy s P d → NamesBy s Q d
more-names s P Q (deed.Made (Some o) (Some a) k (asked.Number i) hr) g p = p
more-names s P Q (deed.Made (Some o) (Some a) k (asked.Guid x) hr) g p = tt
more-names s P Q (deed.Made (Some o) None k i hr) g p = tt
more-names s P Q (deed.Made None a k i hr) g p = tt
more-names s P Q (deed.Query (Some o) (asked.Number i) hr) g p = λ e. g (reference o i) (p e)
more-names s P Q (deed.Query (Some o) (asked.Guid x) hr) g p = tt
more-names s P Q (deed.Query None i hr) g p = tt
more-names s P Q (deed.Copy None) g p = tt
more-names s P Q (deed.Copy (Some r)) g p = g r p
more-names s P Q (deed.Release None) g p = tt
more-names s P Q (deed.Release (Some r)) g p = g r p
more-names s P Q (deed.Marshal t m None refs hr bytes) g p = tt
more-names s P Q (deed.Marshal t m (Some r) refs hr bytes) g p = g r p
more-names s P Q (deed.Unmarshal t None refs hr) g p = tt
more-names s P Q (deed.Unmarshal t (Some r) refs hr) g p = g r p
more-names s P Q (deed.Register t None hr) g p = tt
more-names s P Q (deed.Register t (Some r) hr) g p = g r p
more-names s P Q (deed.Get t None refs hr) g p = tt
more-names s P Q (deed.Get t (Some r) refs hr) g p = g r p
more-names s P Q (deed.Enter c o a t vs) g p = all-of (ValueBy P) (ValueBy Q) (more-value P Q g) vs p
more-names s P Q (deed.Leave c hr v bytes) g p = more-result P Q g v p
more-names s P Q (deed.Back c hr v) g p = more-result P Q g v p
more-names s P Q _ g p = tt

-- ---- what calls sent, and their answers

own-sent : (s : Scenario) (h : List Entry) (i : Issue) (P Q : RefValue → Type 0) (b : Bool) (xs : List Value) → ((r : RefValue) → P r → Q r) → ActBy P (act s h i.lane) → All (ValueBy Q) xs → All (ValueBy Q) (own_values s h i b xs)
own-sent s h i P Q true xs g p r = all-of (ValueBy P) (ValueBy Q) (more-value P Q g) _ (values-by s P (books s h) _ (act s h i.lane) p)
own-sent s h i P Q false xs g p r = r

sent-after : (s : Scenario) (h : List Entry) (l c : ℕ) (P Q : RefValue → Type 0) (d : Deed) (xs : List Value) → ((r : RefValue) → P r → Q r) → ActBy P (act s h l) → All (ValueBy Q) xs → All (ValueBy Q) (values_or s h (issues l d) c xs)
sent-after s h l c P Q (deed.Out x o j z r cause bytes) xs g p t = own-sent s h (record { call = x; lane = l; object = o; iface = j; method = z; route = r; cause = cause }) P Q (x == c) xs g p t
sent-after s h l c P Q _ xs g p t = t

where-by : (R : RefValue → Type 0) (b : Bool) (x : Ending) → EndingBy R (Some x) → EndingBy R (where_true b x)
where-by R true x p = p
where-by R false x p = tt

abbrev EndBy : (RefValue → Type 0) → EndEffect → Type 0
EndBy R (EndsCall c x) = EndingBy R (Some x)
EndBy R _ = Unit {0}

object-end : (R : RefValue → Type 0) (x : Option ℕ) → EndBy R (cuts_object x)
object-end R None = tt
object-end R (Some o) = tt

sta-end : (R : RefValue → Type 0) (x : Option ℕ) → EndBy R (cuts_sta x)
sta-end R None = tt
sta-end R (Some a) = tt

judged-end : (R : RefValue → Type 0) (c : ℕ) (v : Verdict) (b : Bool) → EndBy R (cond b EndsNone (EndsCall c (ByVerdict v)))
judged-end R c v true = tt
judged-end R c v false = tt

end-by : (s : Scenario) (R : RefValue → Type 0) (f : ℕ → Bool) (d : Deed) → NamesBy s R d → EndBy R (end_effect f d)
end-by s R f (deed.Leave c hr v bytes) g = g
end-by s R f (deed.Out c o i x route.Refused cause bytes) g = tt
end-by s R f (deed.Out c o i x route.Direct cause bytes) g = tt
end-by s R f (deed.Out c o i x route.Switch cause bytes) g = tt
end-by s R f (deed.Out c o i x route.Post cause bytes) g = tt
end-by s R f (deed.Refuse c hr) g = tt
end-by s R f (deed.Verdict c t v) g = judged-end R c v (f c)
end-by s R f (deed.Retry c (negsuc x)) g = tt
end-by s R f (deed.Retry c (pos x)) g = tt
end-by s R f (deed.Pending c w zero) g = tt
end-by s R f (deed.Pending c w (suc x)) g = tt
end-by s R f (deed.Disconnect o hr) g = object-end R (disconnects (deed.Disconnect o hr))
end-by s R f (deed.Uninit a x) g = sta-end R (ends_sta (deed.Uninit a x))
end-by s R f _ g = tt

ends-by : (R : RefValue → Type 0) (x : EndEffect) (c o a : ℕ) (b : Bool) → EndBy R x → EndingBy R (ends x c o a b)
ends-by R (EndsCall d e) c o a b p = where-by R (d == c) e p
ends-by R (CutsObject q) c o a b p = where-by R (b && q == o) _ tt
ends-by R (CutsSta q) c o a b p = where-by R (b && q == a) _ tt
ends-by R EndsNone c o a b p = tt

ending-or : (R : RefValue → Type 0) (x y : Option Ending) → EndingBy R x → EndingBy R y → EndingBy R (or_else x y)
ending-or R None y p q = q
ending-or R (Some e) y p q = p

more-ending : (P Q : RefValue → Type 0) → ((r : RefValue) → P r → Q r) → (e : Option Ending) → EndingBy P e → EndingBy Q e
more-ending P Q g None q = tt
more-ending P Q g (Some (ByLeave hr v)) q = more-result P Q g v q
more-ending P Q g (Some _) q = tt

act-more : (P Q : RefValue → Type 0) → ((r : RefValue) → P r → Q r) → (x : Option Action) → ActBy P x → ActBy Q x
act-more P Q g None p = tt
act-more P Q g (Some a) p = more-action P Q g a p

-- ---- one entry

held-step : (s : Scenario) (h : List Entry) (e : Entry) → Formed s → legal s (e ∷ h) → HoldsDeclared s h → HoldsDeclared s (e ∷ h)
held-step s h e f q k =
    let l : ℕ = e.lane in
    let d : Deed = e.deed in
    let P : RefValue → Type 0 = IsDeclared s h in
    let Q : RefValue → Type 0 = IsDeclared s (e ∷ h) in
    let g : (r : RefValue) → P r → Q r = stays-declared s h e f q in
    let n : NamesBy s P d = next-names s P h l d (sees-held s h f k) q.1 in
    let x : ActBy P (act s h l) = acts-held s h f k l in
    let w : SceneBy Q (scene s (e ∷ h)) = scene-by s f Q (class_of h) (named h) (issue h) (actor_in s h l) (actor_in s (e ∷ h) l) l d (scene s h) (taken-held s h l (faces s) (next_sta h) d g (fine-next s h e f q) n) (brings-held s P Q d g n) (more-scene P Q g (scene s h) (scene-held s h k)) in
    let t : TablesBy Q (books s (e ∷ h)) = closed-by s Q (ground s (e ∷ h)) (scene s (e ∷ h)) (act s h l) (λ c. is_leave (ending s h c)) (number_or_zero (running s h l)) d (books s h) (act-more P Q g (act s h l) x) (more-names s P Q d g n) (more-tables P Q g (books s h) (tables-held s h k)) in
    record {
      scripts = w.scripts;
      bodies = w.bodies;
      links = w.links;
      sent = λ c. sent-after s h l c P Q d (sent s h c) g x (all-of (ValueBy P) (ValueBy Q) (more-value P Q g) (sent s h c) (k.sent c));
      answers = λ c. ending-or Q (ending s h c) _ (more-ending P Q g (ending s h c) (k.answers c)) (ends-by Q (end_effect (filtered s h) d) c (target h c) (named h (target h c)) (can_be_cut (issue h c) (admitted h c)) (end-by s Q (filtered s h) d (more-names s P Q d g n)));
      packets = t.packets;
      cookies = t.cookies;
    }

held-first : (s : Scenario) → HoldsDeclared s []
held-first s = record {
  scripts = λ l. (first-scene (IsDeclared s [])).0;
  bodies = λ c. (first-scene (IsDeclared s [])).0;
  links = λ o. (first-scene (IsDeclared s [])).1;
  sent = λ c. All-nil (ValueBy (IsDeclared s []));
  answers = λ c. tt;
  packets = All-nil _;
  cookies = All-nil _;
}

pub legal-holds : (s : Scenario) (h : List Entry) → Formed s → legal s h → HoldsDeclared s h
legal-holds s [] f q = held-first s
legal-holds s (e ∷ h) f q = held-step s h e f q (legal-holds s h f q.0)

pub entry-names : (s : Scenario) (h : List Entry) (e : Entry) → Formed s → legal s (e ∷ h) → NamesDeclared s h e.lane e.deed
entry-names s h e f q = next-names s (IsDeclared s h) h e.lane e.deed (sees-held s h f (legal-holds s h f q.0)) q.1

pub legal-names : (s : Scenario) (h : List Entry) → Formed s → legal s h → EachEntry (NamesDeclared s) h
legal-names s [] f q = tt
legal-names s (e ∷ h) f q = (legal-names s h f q.0, entry-names s h e f q)
