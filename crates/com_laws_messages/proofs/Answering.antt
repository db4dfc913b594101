-- What the next entry of a lane tells and brings fits the types that hold it, where what the rules look at does.
use Rattle.std.proofs.Common.{subst, arith}
use Rattle.std.proofs.lemmas.Str.{IsUtf8-nil}
use Rattle.std.proofs.lemmas.Grind.{common_steps}
use Rattle.std.proofs.lemmas.List.Elements.{All-cons, All-nil}
use Rattle.std.specs.Prelude.{◌≡◌, refl, ℕ, ℤ, ◌+◌, ◌^◌, ◌<◌, Bool, true, false, cond, not, ◌&&◌, ◌==◌, nat_le, List, [], ◌∷◌, length, replicate, is_none, Option, Some, None, All, Result, Ok, Err}
use Rattle.com_base.specs.declared.hresult.HResult.{HResult}
use Rattle.com_base.specs.declared.value.RefValue.{RefValue}
use Rattle.com_base.specs.declared.value.Kind.{Kind}
use Rattle.com_base.specs.declared.value.Kind.TheVariants as kind
use Rattle.com_base.specs.declared.value.Value.{Value}
use Rattle.com_base.specs.declared.value.Value.TheVariants as value
use Rattle.com_base.specs.declared.value.Mode.{Mode}
use Rattle.com_base.specs.declared.value.MarshalMode.{MarshalMode}
use Rattle.com_base.specs.Values.{as_kind, default_of, has_kind}
use Rattle.com_base.specs.Guids.{IsBytes, IsGuid, zero_guid}
use Rattle.com_body.specs.declared.operands.Asked.{Asked}
use Rattle.com_body.specs.declared.actions.Action.{Action}
use Rattle.com_body.specs.declared.actions.Action.TheVariants as action
use Rattle.com_classes.specs.declared.classes.Class.{Class}
use Rattle.com_classes.specs.declared.factory.Creator.{Creator}
use Rattle.com_classes.specs.Activation.{owner_for, is_agile}
use Rattle.com_classes.specs.Lookups.{class_at, class_has, method_at}
use Rattle.com_filter.specs.declared.Verdict.{Verdict}
use Rattle.com_filter.specs.declared.Verdict.TheVariants as verdict
use Rattle.objref.specs.declared.decoding.RefFault.{RefFault}
use Rattle.objref.specs.Grammar.{Reference, standard, handler, custom}
use Rattle.objref.specs.Reading.{objref_of}
use Rattle.com_model.specs.declared.deeds.Deed.{Deed}
use Rattle.com_model.specs.declared.deeds.Deed.TheVariants as deed
use Rattle.com_model.specs.declared.scenario.Scenario.{Scenario}
use Rattle.com_model.specs.Answers.{S_OK, S_FALSE, E_NOINTERFACE, E_INVALIDARG, RPC_E_CHANGED_MODE, RPC_E_DISCONNECTED, RPC_E_INVALIDMETHOD, CO_E_OBJNOTCONNECTED, RPC_E_OUT_OF_RESOURCES, RPC_E_SERVER_CANTUNMARSHAL_DATA, RPC_E_CLIENT_CANTUNMARSHAL_DATA, is_failure}
use Rattle.com_model.specs.Lists.{number_or_zero, where_true}
use Rattle.com_model.specs.Tables.{class_number, interface_number, parameters}
use Rattle.com_model.specs.Openers.{running_call}
use Rattle.com_model.specs.Calls.{object_of, is_marshalled}
use Rattle.com_model.specs.declared.keeps.Issue.{Issue}
use Rattle.com_model.specs.Values.{if_live, sent_value, sent_values, sent_result, given_or_default}
use Rattle.com_model.specs.Frames.{answer_in, cookie_in}
use Rattle.com_model.specs.Endings.{Answer, answer_of, without_value, verdict_answer}
use Rattle.com_model.specs.declared.keeps.Ending.{Ending}
use Rattle.com_model.specs.declared.keeps.Ending.TheVariants.{AtIssue, AtAdmission, ByVerdict, ByRetry, ByCancel, ByDisconnection, ByLeave}
use Rattle.com_refs_books.specs.declared.keeps.Cookie.{Cookie}
use Rattle.com_refs_books.specs.Changes.{Books, cookie}
use Rattle.com_model.specs.Books.{out_values}
use Rattle.com_model.specs.Issue.{call_refusal, action_refusal, or_ok}
use Rattle.com_model.specs.Sight.{Sight}
use Rattle.com_model.specs.Deeds.{deed_of, has_mode, initialised, uninitialised, in_sta, creator, placing, made_as, created_of, created, owned_by, offers, query_answer, hold_refusal, marshalled, registered, named_packet, Named, NamesPacket, Refuses, named_or, named_in, named_by, unmarshalled, dropped, cookie_number, got_with, got, revoked, disconnect_answer, takes_words, called, left_as, left_by}
use Rattle.com_model.specs.Rules.{posted_to_sta, call_sort, verdict_on, is_handled_in, arguments_gone, admission, due_of, result_gone, packet_left, answered, after_script}
use Rattle.com_model.proofs.Fines.{cond-is}
use Rattle.com_laws_safety.proofs.Sources.{IsRest, Source, by_body, by_script, by_end, by_final, by_own, by_answer, by_inbox, by_retry, by_again, by_rest}
use Rattle.com_laws_balance.proofs.Carries.{all-head, all-tail}
use Rattle.com_laws_messages.proofs.Walking.{CanCarry, ResultCan, IsShort, ActionCan, small-can}

-- ---- values that travel

zero-bytes : IsBytes (replicate 8 0)
zero-bytes i = grind (arith, common_steps)

pub zero-guid : IsGuid zero_guid
zero-guid = record { data1 = omega arith; data2 = omega arith; data3 = omega arith; eight = refl; bytes = zero-bytes }

pub default-can : (k : Kind) → CanCarry (default_of k)
default-can kind.Int = small-can 0 (omega arith)
default-can kind.Bool = tt
default-can kind.Text = (IsUtf8-nil, omega arith)
default-can kind.Bytes = omega arith
default-can kind.Guid = zero-guid
default-can (kind.Ref i) = tt

live-can : (b : Bool) (live : ℕ → Bool) (v : Value) → CanCarry v → CanCarry (if_live b live v)
live-can true live (value.Ref (Some r)) p = tt
live-can true live (value.Ref None) p = tt
live-can true live (value.Int x) p = p
live-can true live (value.Bool x) p = tt
live-can true live (value.Text x) p = p
live-can true live (value.Bytes x) p = p
live-can true live (value.Guid x) p = p
live-can false live v p = p

sent-can : (b : Bool) (live : ℕ → Bool) (k : Kind) (v : Value) → CanCarry v → CanCarry (sent_value b live k v)
sent-can b live k v p = live-can b live (as_kind v k) (cond-is CanCarry (has_kind v k) v (default_of k) p (default-can k))

pub all-sent-can : (b : Bool) (live : ℕ → Bool) (ks : List Kind) (vs : List Value) → All CanCarry vs → All CanCarry (sent_values b live ks vs)
all-sent-can b live [] vs p = All-nil CanCarry
all-sent-can b live (k ∷ ks) [] p = All-cons CanCarry (default_of k) _ (default-can k) (all-sent-can b live ks [] p)
all-sent-can b live (k ∷ ks) (v ∷ vs) p = All-cons CanCarry (sent_value b live k v) _ (sent-can b live k v (all-head CanCarry v vs p)) (all-sent-can b live ks vs (all-tail CanCarry v vs p))

given-or-can : (k : Kind) (v : Option Value) → ResultCan v → CanCarry (given_or_default k v)
given-or-can k None p = default-can k
given-or-can k (Some v) p = p

result-can : (b : Bool) (live : ℕ → Bool) (hr : HResult) (k : Option Kind) (v : Option Value) → ResultCan v → ResultCan (sent_result b live hr k v)
result-can b live hr None v p = tt
result-can b live hr (Some k) v p = cond-is ResultCan (is_failure hr) None (Some (sent_value b live k (given_or_default k v))) tt (sent-can b live k (given_or_default k v) (given-or-can k v p))

abbrev pub ActCan : Option Action → Type 0
ActCan None = Unit {0}
ActCan (Some a) = ActionCan a

pub out-can : (s : Scenario) (b : Books) (m : Bool) (x : Option Action) → ActCan x → All CanCarry (out_values s b m x)
out-can s b m (Some (action.Call held i method args to)) p = all-sent-can m b.live (parameters (method_at s.classes i method)) args p
out-can s b m None p = All-nil CanCarry
out-can s b m (Some _) p = All-nil CanCarry

-- ---- HRESULTs

abbrev ShortIn : Option HResult → Type 0
ShortIn None = Unit {0}
ShortIn (Some hr) = IsShort hr

either-short : (b : Bool) (x y : HResult) → IsShort x → IsShort y → IsShort (cond b x y)
either-short b x y p q = cond-is IsShort b x y p q

refusal-short : (s : Scenario) (home running : Option ℕ) (owns : ℕ → ℕ → Bool) (live : ℕ → Bool) (held : Option RefValue) (i m : ℕ) → ShortIn (call_refusal s home running owns live held i m)
refusal-short s None r owns live held i m = omega arith
refusal-short s (Some a) r owns live None i m = omega arith
refusal-short s (Some a) r owns live (Some t) i m =
    cond-is ShortIn (not (t.iface == i)) (Some E_NOINTERFACE) _ (omega arith)
    (cond-is ShortIn (is_none (method_at s.classes i m)) (Some RPC_E_INVALIDMETHOD) _ (omega arith)
    (cond-is ShortIn (not (owns t.object (number_or_zero r)) && not (live t.object)) (Some RPC_E_DISCONNECTED) None (omega arith) tt))

or-ok-short : (x : Option HResult) → ShortIn x → IsShort (or_ok x)
or-ok-short None p = omega arith
or-ok-short (Some hr) p = p

pub issue-short : (s : Scenario) (home running : Option ℕ) (owns : ℕ → ℕ → Bool) (live : ℕ → Bool) (x : Option Action) → IsShort (or_ok (action_refusal s home running owns live x))
issue-short s a r owns live (Some (action.Call held i m args to)) = or-ok-short _ (refusal-short s a r owns live held i m)
issue-short s a r owns live None = omega arith
issue-short s a r owns live (Some _) = omega arith

hold-short : (v : Sight) (home : Option ℕ) (held : Option RefValue) → ShortIn (hold_refusal v home held)
hold-short v None held = omega arith
hold-short v (Some a) None = omega arith
hold-short v (Some a) (Some r) = cond-is ShortIn (v.books.live r.object) None (Some CO_E_OBJNOTCONNECTED) tt (omega arith)

-- ---- what an entry tells and brings

abbrev pub EndingCan : Option Ending → Type 0
EndingCan (Some (AtAdmission hr)) = IsShort hr
EndingCan (Some (ByLeave hr v)) = IsShort hr × ResultCan v
EndingCan _ = Unit {0}

abbrev pub Brings : Deed → Type 0
Brings (deed.Enter c o a t vs) = All CanCarry vs
Brings (deed.Leave c hr v bytes) = IsShort hr × ResultCan v
Brings (deed.Back c hr v) = IsShort hr × ResultCan v
Brings (deed.Refuse c hr) = IsShort hr
Brings _ = Unit {0}

pub record DeedCan (d : Deed) : Type 0 where
  pub answer : IsShort (answer_in d)
  pub cookie : cookie_in d < 2 ^ 63
  pub brings : Brings d

pub record SeesCan (v : Sight) : Type 0 where
  pub acts : (l : ℕ) (a : Action) → v.act l ≡ Some a → ActionCan a
  pub unread : (c : ℕ) → All CanCarry (v.unread c)
  pub endings : (c : ℕ) → EndingCan (v.ending c)
  pub issues : (c : ℕ) → IsShort (v.at_issue c)
  pub cookies : length v.books.cookies + 1 < 2 ^ 63

initialised-can : (v : Sight) (m : Mode) (home : Option ℕ) → DeedCan (initialised v m home)
initialised-can v m None = record { answer = omega arith; cookie = omega arith; brings = tt }
initialised-can v m (Some a) = record { answer = either-short (has_mode m a) S_FALSE RPC_E_CHANGED_MODE (omega arith) (omega arith); cookie = omega arith; brings = tt }

placed-can : (s : Scenario) (v : Sight) (a b : Asked) (c i : ℕ) (x : Creator) (k : Class) (t : Bool) → DeedCan (made_as s v a b (cond t (Ok (record { class = c; iface = i; owner = owner_for k.model x; agile = is_agile k.model })) (Err (record { 0 = 0x80004002 }))))
placed-can s v a b c i x k true = record { answer = omega arith; cookie = omega arith; brings = tt }
placed-can s v a b c i x k false = record { answer = omega arith; cookie = omega arith; brings = tt }

placing-can : (s : Scenario) (v : Sight) (a b : Asked) (c : ℕ) (j : Option ℕ) (x : Creator) (o : Option Class) → DeedCan (made_as s v a b (placing x c j o))
placing-can s v a b c j x None = record { answer = omega arith; cookie = omega arith; brings = tt }
placing-can s v a b c None x (Some k) = record { answer = omega arith; cookie = omega arith; brings = tt }
placing-can s v a b c (Some i) x (Some k) = placed-can s v a b c i x k (class_has k i)

created_of-can : (s : Scenario) (v : Sight) (l a : ℕ) (k i : Asked) (c j : Option ℕ) → DeedCan (created_of s v l a k i c j)
created_of-can s v l a k i None j = record { answer = omega arith; cookie = omega arith; brings = tt }
created_of-can s v l a k i (Some c) j = placing-can s v k i c j (creator v l a) (class_at s.classes c)

created-can : (s : Scenario) (v : Sight) (l : ℕ) (k i : Asked) (home : Option ℕ) → DeedCan (created s v l k i home)
created-can s v l k i None = record { answer = omega arith; cookie = omega arith; brings = tt }
created-can s v l k i (Some a) = created_of-can s v l a k i (class_number s k) (interface_number s i)

query-short : (s : Scenario) (v : Sight) (l : ℕ) (home : Option ℕ) (held : Option RefValue) (i : Option ℕ) → IsShort (query_answer s v l home held i)
query-short s v l None held i = omega arith
query-short s v l (Some a) None i = omega arith
query-short s v l (Some a) (Some r) i =
    either-short (not (owned_by v l r.object) && not (v.books.live r.object)) RPC_E_DISCONNECTED _ (omega arith)
    (either-short (offers s (v.class r.object) i) S_OK E_NOINTERFACE (omega arith) (omega arith))

marshalled-can : (s : Scenario) (v : Sight) (l : ℕ) (x : MarshalMode) (held : Option RefValue) (hr : Option HResult) → ShortIn hr → DeedCan (marshalled s v l x held hr)
marshalled-can s v l x held (Some hr) p = record { answer = p; cookie = omega arith; brings = tt }
marshalled-can s v l x None None p = record { answer = omega arith; cookie = omega arith; brings = tt }
marshalled-can s v l x (Some r) None p = record { answer = omega arith; cookie = omega arith; brings = tt }

registered-can : (s : Scenario) (v : Sight) (held : Option RefValue) (hr : Option HResult) → length v.books.cookies + 1 < 2 ^ 63 → ShortIn hr → DeedCan (registered v held hr)
registered-can s v held (Some hr) n p = record { answer = p; cookie = omega arith; brings = tt }
registered-can s v held None n p = record { answer = omega arith; cookie = n; brings = tt }

abbrev NamedShort : Named → Type 0
NamedShort (NamesPacket p) = Unit {0}
NamedShort (Refuses hr) = IsShort hr

named-or-short : (o : Option ℕ) → NamedShort (named_or o)
named-or-short None = omega arith
named-or-short (Some p) = tt

named-in-short : (s : Scenario) (v : Sight) (r : Result Reference RefFault) → NamedShort (named_in s v r)
named-in-short s v (Err x) = omega arith
named-in-short s v (Ok (standard f flags strings)) = named-or-short (named_packet s v f)
named-in-short s v (Ok (handler f flags g strings)) = omega arith
named-in-short s v (Ok (custom g k x y bytes)) = omega arith

named-by-short : (s : Scenario) (v : Sight) (home : Option ℕ) (bytes : List ℕ) → NamedShort (named_by s v home bytes)
named-by-short s v None bytes = omega arith
named-by-short s v (Some a) bytes = named-in-short s v (objref_of bytes)

unmarshalled-can : (v : Sight) (l : ℕ) (n : Named) → NamedShort n → DeedCan (unmarshalled v l n)
unmarshalled-can v l (NamesPacket p) q = record { answer = omega arith; cookie = omega arith; brings = tt }
unmarshalled-can v l (Refuses hr) q = record { answer = q; cookie = omega arith; brings = tt }

dropped-can : (n : Named) → NamedShort n → DeedCan (dropped n)
dropped-can (NamesPacket p) q = record { answer = omega arith; cookie = omega arith; brings = tt }
dropped-can (Refuses hr) q = record { answer = q; cookie = omega arith; brings = tt }

got-can : (v : Sight) (l : ℕ) (x : ℤ) (home : Option ℕ) → DeedCan (got v l x home)
got-can v l x None = record { answer = omega arith; cookie = omega arith; brings = tt }
got-can v l x (Some a) =
    let k : Cookie = cookie v.books (cookie_number x) in
    cond-is DeedCan k.is_revoked (deed.Get x None 0 E_INVALIDARG) (got_with v l x k) (record { answer = omega arith; cookie = omega arith; brings = tt })
    (cond-is DeedCan (v.books.live k.object) _ (deed.Get x None 0 CO_E_OBJNOTCONNECTED) (record { answer = omega arith; cookie = omega arith; brings = tt }) (record { answer = omega arith; cookie = omega arith; brings = tt }))

revoked-can : (v : Sight) (x : ℤ) (home : Option ℕ) → DeedCan (revoked v x home)
revoked-can v x None = record { answer = omega arith; cookie = omega arith; brings = tt }
revoked-can v x (Some a) = record { answer = either-short (cookie v.books (cookie_number x)).is_revoked E_INVALIDARG S_OK (omega arith) (omega arith); cookie = omega arith; brings = tt }

disconnect-short : (v : Sight) (l : ℕ) (home : Option ℕ) (held : Option RefValue) → IsShort (disconnect_answer v l home held)
disconnect-short v l None held = omega arith
disconnect-short v l (Some a) None = omega arith
disconnect-short v l (Some a) (Some r) = either-short (owned_by v l r.object) S_OK E_INVALIDARG (omega arith) (omega arith)

called-can : (s : Scenario) (v : Sight) (l : ℕ) (held : Option RefValue) (i x : ℕ) (args : List Value) (hr : Option HResult) → DeedCan (called s v l held i x args hr)
called-can s v l held i x args (Some hr) = record { answer = omega arith; cookie = omega arith; brings = tt }
called-can s v l held i x args None = record { answer = omega arith; cookie = omega arith; brings = tt }

left-can : (s : Scenario) (v : Sight) (l c : ℕ) (i : Option Issue) (hr : HResult) (x : Option Value) → IsShort hr → ResultCan x → DeedCan (left_as s v l c i hr x)
left-can s v l c None hr x n p = record { answer = omega arith; cookie = omega arith; brings = (n, tt) }
left-can s v l c (Some i) hr x n p = record { answer = omega arith; cookie = omega arith; brings = (n, result-can (is_marshalled i.route) v.books.live hr _ x p) }

left-by-can : (s : Scenario) (v : Sight) (l : ℕ) (hr : HResult) (x : Option Value) (c : Option ℕ) → IsShort hr → ResultCan x → DeedCan (left_by s v l hr x c)
left-by-can s v l hr x None n p = record { answer = omega arith; cookie = omega arith; brings = (n, tt) }
left-by-can s v l hr x (Some c) n p = left-can s v l c (v.issue c) hr x n p

acted-can : (s : Scenario) (v : Sight) (l : ℕ) (a : Action) → SeesCan v → ActionCan a → DeedCan (deed_of s v l a)
acted-can s v l (action.Create slot k i) g p = created-can s v l k i (v.home l)
acted-can s v l (action.Query to held i) g p = record { answer = query-short s v l (v.home l) held (interface_number s i); cookie = omega arith; brings = tt }
acted-can s v l (action.Copy to held) g p = record { answer = omega arith; cookie = omega arith; brings = tt }
acted-can s v l (action.Release from held) g p = record { answer = omega arith; cookie = omega arith; brings = tt }
acted-can s v l (action.Call held i x args to) g p = called-can s v l held i x args (call_refusal s (v.home l) (v.running l) v.owns v.books.live held i x)
acted-can s v l (action.Marshal b held x) g p = marshalled-can s v l x held (hold_refusal v (v.home l) held) (hold-short v (v.home l) held)
acted-can s v l (action.Unmarshal slot b) g p = unmarshalled-can v l (named_by s v (v.home l) (v.buffers b)) (named-by-short s v (v.home l) (v.buffers b))
acted-can s v l (action.Drop b) g p = dropped-can (named_by s v (v.home l) (v.buffers b)) (named-by-short s v (v.home l) (v.buffers b))
acted-can s v l (action.Raw b bytes) g p = record { answer = omega arith; cookie = omega arith; brings = tt }
acted-can s v l (action.Register to held) g p = registered-can s v held (hold_refusal v (v.home l) held) g.cookies (hold-short v (v.home l) held)
acted-can s v l (action.Get slot x) g p = got-can v l x (v.home l)
acted-can s v l (action.Revoke x) g p = revoked-can v x (v.home l)
acted-can s v l (action.Disconnect held) g p = record { answer = disconnect-short v l (v.home l) held; cookie = omega arith; brings = tt }
acted-can s v l (action.Post m w) g p = record { answer = either-short (takes_words s v m) S_OK E_INVALIDARG (omega arith) (omega arith); cookie = omega arith; brings = tt }
acted-can s v l (action.Quit m) g p = record { answer = either-short (takes_words s v m) S_OK E_INVALIDARG (omega arith) (omega arith); cookie = omega arith; brings = tt }
acted-can s v l (action.Leave hr x) g p = left-by-can s v l hr x (running_call (v.openers l)) p.0 p.1
acted-can s v l (action.Init m) g p = initialised-can v m (v.home l)
acted-can s v l action.Uninit g p = record { answer = omega arith; cookie = omega arith; brings = tt }
acted-can s v l (action.SetFilter f) g p = record { answer = either-short (in_sta (v.home l)) S_OK S_FALSE (omega arith) (omega arith); cookie = omega arith; brings = tt }
acted-can s v l (action.Pump k) g p = record { answer = omega arith; cookie = omega arith; brings = tt }

-- ---- the rules

admission-can : (s : Scenario) (v : Sight) (l c : ℕ) → SeesCan v → DeedCan (admission s v l c)
admission-can s v l c g =
    cond-is DeedCan (nat_le 256 (length (v.openers l))) (deed.Refuse c RPC_E_OUT_OF_RESOURCES) _ (record { answer = omega arith; cookie = omega arith; brings = omega arith })
    (cond-is DeedCan (posted_to_sta v c && not (is_handled_in s v l c)) (deed.Verdict c (call_sort v l c) (verdict_on s v l c)) _ (record { answer = omega arith; cookie = omega arith; brings = tt })
    (cond-is DeedCan (arguments_gone v c) (deed.Refuse c RPC_E_SERVER_CANTUNMARSHAL_DATA) (deed.Enter c (object_of (v.issue c)) (v.owner (object_of (v.issue c)) l) (where_true (posted_to_sta v c) (call_sort v l c)) (v.unread c)) (record { answer = omega arith; cookie = omega arith; brings = omega arith }) (record { answer = omega arith; cookie = omega arith; brings = g.unread c })))

abbrev AnswerCan : Answer → Type 0
AnswerCan x = IsShort x.hr × ResultCan x.value

verdict-short : (x : Verdict) → IsShort (verdict_answer x)
verdict-short verdict.Later = omega arith
verdict-short verdict.Handled = omega arith
verdict-short verdict.Rejected = omega arith

answer-can : (hr : HResult) (x : Ending) → IsShort hr → EndingCan (Some x) → AnswerCan (answer_of hr x)
answer-can hr AtIssue p q = (p, tt)
answer-can hr (AtAdmission x) p q = (q, tt)
answer-can hr (ByVerdict x) p q = (verdict-short x, tt)
answer-can hr ByRetry p q = (omega arith, tt)
answer-can hr ByCancel p q = (omega arith, tt)
answer-can hr ByDisconnection p q = (omega arith, tt)
answer-can hr (ByLeave x y) p q = q

abbrev DueCan : Option Answer → Type 0
DueCan None = Unit {0}
DueCan (Some x) = AnswerCan x

due-can : (v : Sight) (c : ℕ) → SeesCan v → DueCan (due_of v c)
due-can v c g = by-ending (v.ending c) (g.endings c)
  where
    by-ending : (x : Option Ending) → EndingCan x → DueCan (elim x as (λ _. Option Answer) [ None ↦ None | Some e ↦ Some (answer_of (v.at_issue c) e) ])
    by-ending None q = tt
    by-ending (Some e) q = answer-can (v.at_issue c) e (g.issues c) q

answered-can : (v : Sight) (c : ℕ) (x : Answer) (p : Option ℕ) → AnswerCan x → DeedCan (answered v c x p)
answered-can v c x (Some p) q = record { answer = omega arith; cookie = omega arith; brings = tt }
answered-can v c x None q = record { answer = omega arith; cookie = omega arith; brings = cond-is AnswerCan (result_gone v c (v.books.result c)) (without_value RPC_E_CLIENT_CANTUNMARSHAL_DATA) x (omega arith, tt) q }

rest-can : (d : Deed) → IsRest d → DeedCan d
rest-can deed.EndPump p = record { answer = omega arith; cookie = omega arith; brings = tt }
rest-can (deed.Word w) p = record { answer = omega arith; cookie = omega arith; brings = tt }
rest-can (deed.Pending c w n) p = record { answer = omega arith; cookie = omega arith; brings = tt }
rest-can (deed.Tick t) p = record { answer = omega arith; cookie = omega arith; brings = tt }
rest-can _ p = absurd p

ended-can : (v : Sight) (l : ℕ) → DeedCan (after_script v l)
ended-can v l = cond-is DeedCan (v.count l == 0) deed.End (uninitialised v l) (record { answer = omega arith; cookie = omega arith; brings = tt }) (record { answer = omega arith; cookie = omega arith; brings = tt })

pub source-can : (s : Scenario) (v : Sight) (l : ℕ) (d : Deed) → SeesCan v → Source s v l d → DeedCan d
source-can s v l d g (by_body c o a os x p q e) = subst DeedCan e (acted-can s v l x g (g.acts l x q))
source-can s v l d g (by_script x p t q e) = subst DeedCan e (acted-can s v l x g (g.acts l x q))
source-can s v l d g (by_end p t e) = subst DeedCan e (ended-can v l)
source-can s v l d g (by_final o p e) = subst DeedCan e (record { answer = omega arith; cookie = omega arith; brings = tt })
source-can s v l d g (by_own c p q e) = subst DeedCan e (admission-can s v l c g)
source-can s v l d g (by_answer c x p q e) = subst DeedCan e (answered-can v c x (packet_left v c) (subst DueCan q (due-can v c g)))
source-can s v l d g (by_inbox c p q e) = subst DeedCan e (admission-can s v l c g)
source-can s v l d g (by_retry c n x q e) = subst DeedCan e (record { answer = omega arith; cookie = omega arith; brings = tt })
source-can s v l d g (by_again c t q e) = subst DeedCan e (record { answer = omega arith; cookie = omega arith; brings = tt })
source-can s v l d g (by_rest p) = rest-can d p
