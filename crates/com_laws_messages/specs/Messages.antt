-- The messages of calls in a history: the request of a call is the bytes of its Out, its reply the bytes of
-- its Leave.
use Rattle.std.specs.Prelude.{ℕ, ◌==◌, if◌then◌else◌, List, [], ◌∷◌, Option, Some, None}
use Rattle.com_base.specs.declared.value.Kind.{Kind}
use Rattle.com_classes.specs.Lookups.{method_at}
use Rattle.com_model.specs.declared.deeds.Deed.{Deed}
use Rattle.com_model.specs.declared.deeds.Deed.TheVariants as deed
use Rattle.com_model.specs.declared.deeds.Entry.{Entry}
use Rattle.com_model.specs.declared.scenario.Scenario.{Scenario}
use Rattle.com_model.specs.Tables.{parameters, result_kind}
use Rattle.com_model.specs.declared.keeps.Issue.{Issue}

-- Bytes of a call, where it travels as bytes.
pub record Message : Type 0 where
  pub call : ℕ
  pub bytes : Option (List ℕ)

abbrev pub requests : Deed → Option Message
requests (deed.Out c o i m r k bytes) = Some (record { call = c; bytes = bytes })
requests _ = None

abbrev pub replies : Deed → Option Message
replies (deed.Leave c hr value bytes) = Some (record { call = c; bytes = bytes })
replies _ = None

abbrev pub message_or : Option Message → ℕ → Option (List ℕ) → Option (List ℕ)
message_or None c before = before
message_or (Some m) c before = if m.call == c then m.bytes else before

abbrev pub request : List Entry → ℕ → Option (List ℕ)
request [] c = None
request (e ∷ h) c = message_or (requests e.deed) c (request h c)

abbrev pub reply : List Entry → ℕ → Option (List ℕ)
reply [] c = None
reply (e ∷ h) c = message_or (replies e.deed) c (reply h c)

-- What the method of a call declares: the kinds of its parameters, and of its result.
abbrev pub parameters_of : Scenario → Option Issue → List Kind
parameters_of s None = []
parameters_of s (Some i) = parameters (method_at s.classes i.iface i.method)

abbrev pub result_of : Scenario → Option Issue → Option Kind
result_of s None = None
result_of s (Some i) = result_kind (method_at s.classes i.iface i.method)

-- The packet of a result, as a list.
abbrev pub as_list : Option ℕ → List ℕ
as_list None = []
as_list (Some p) = p ∷ []
