-- What one pass over the entries of a history keeps: the objects with their sinks, the calls with the sinks
-- that their events reached, and what stands open in each lane.
use Rattle.std.specs.Prelude.{ℕ, ◌+◌, ◌-◌, ◌^◌, ℤ, pos, Bool, true, false, ◌&&◌, ◌==◌, if◌then◌else◌, min}
use Rattle.std.specs.Prelude.{List, [], ◌∷◌, ◌++◌, Option, Some, None}
use Rattle.com_base.specs.declared.value.Value.{Value}
use Rattle.com_body.specs.declared.operands.Asked.{Asked}
use Rattle.com_deliveries.specs.declared.Delivery.{Delivery}
use Rattle.com_deliveries.specs.declared.sources.Source.{Source}
use Rattle.com_deliveries.specs.declared.tally.Call.{Call}
use Rattle.com_deliveries.specs.Rows.{row_at, with_row, removed, next_in, last_in}
use Rattle.com_deliveries.specs.Rows.{top_in, stack_in, opened_in, closed_in}
use Rattle.com_model.specs.declared.deeds.Deed.{Deed}
use Rattle.com_model.specs.declared.deeds.Deed.TheVariants as deed
use Rattle.com_model.specs.declared.deeds.Entry.{Entry}
use Rattle.com_model.specs.Answers.{is_S_OK}
use Rattle.com_model.specs.Lists.{is_number, number_or_zero}
use Rattle.com_model.specs.Objects.{asked_number}
use Rattle.com_laws_sources.specs.Histories.{first_number, result_cookie}
use Rattle.com_laws_sources.specs.Sources.{advise, unadvise, fire}

pub record Book : Type 0 where
  pub objects : List Source
  pub calls : List Call
  pub lanes : List (List ℕ)

abbrev pub empty : Book
empty = record { objects = []; calls = []; lanes = [] }

-- ---- objects

-- The number that a row has; none where there is no row, or it has no number.
abbrev pub flat : Option (Option ℕ) → Option ℕ
flat None = None
flat (Some x) = x

-- The number of the interface of a class, if that is a source. The table has a row for each class.
abbrev pub source_at : List (Option ℕ) → (class : ℕ) → Option ℕ
source_at sources k = flat (row_at sources k)

abbrev pub no_source : Source
no_source = record { iface = None; cookies = []; advised = 0 }

abbrev pub made : List (Option ℕ) → Asked → Source
made sources class = record { iface = source_at sources (asked_number class); cookies = []; advised = 0 }

unfoldable pub one_more : ℕ → ℕ
one_more n = min (n + 1) (2 ^ 64 - 1)

abbrev pub took : ℕ → Source → Source
took c r = record { iface = r.iface; cookies = r.cookies ++ (c ∷ []); advised = one_more r.advised }

abbrev pub lost : ℤ → Source → Source
lost n r = record { iface = r.iface; cookies = removed n r.cookies; advised = r.advised }

abbrev pub has_iface : Option Source → ℕ → Bool
has_iface None i = false
has_iface (Some r) i = is_number i r.iface

abbrev pub cookies_of : Option Source → List ℕ
cookies_of None = []
cookies_of (Some r) = r.cookies

abbrev pub advised_of : Option Source → ℕ
advised_of None = 0
advised_of (Some r) = r.advised

-- ---- calls

abbrev pub no_call : Call
no_call = record {
  call = 0;
  object = 0;
  iface = 0;
  method = 0;
  number = pos 0;
  last = 0;
  cookies = [];
  has_left = false;
}

abbrev pub called : (call : ℕ) → (object : Option ℕ) → (iface method : ℕ) → Call
called c o i m = record {
  call = c;
  object = number_or_zero o;
  iface = i;
  method = m;
  number = pos 0;
  last = 0;
  cookies = [];
  has_left = false;
}

-- A call on an object of a source, by its own interface.
abbrev pub on_source : List Source → Call → Bool
on_source objects r = has_iface (row_at objects r.object) r.iface

abbrev pub is_event : List Source → Call → Bool
is_event objects r = on_source objects r && r.method == fire

abbrev pub begun : List Source → ℤ → Call → Call
begun objects n r =
    record {
      call = r.call;
      object = r.object;
      iface = r.iface;
      method = r.method;
      number = n;
      last = advised_of (row_at objects r.object);
      cookies = r.cookies;
      has_left = r.has_left;
    }

abbrev pub got : ℕ → Call → Call
got c r =
    record {
      call = r.call;
      object = r.object;
      iface = r.iface;
      method = r.method;
      number = r.number;
      last = r.last;
      cookies = r.cookies ++ (c ∷ []);
      has_left = r.has_left;
    }

abbrev pub ended : Call → Call
ended r =
    record {
      call = r.call;
      object = r.object;
      iface = r.iface;
      method = r.method;
      number = r.number;
      last = r.last;
      cookies = r.cookies;
      has_left = true;
    }

-- The cookie of the next sink of an event.
abbrev pub next_of : List Source → Option Call → Option ℕ
next_of objects None = None
next_of objects (Some r) =
    if is_event objects r then next_in (last_in r.cookies) r.last (cookies_of (row_at objects r.object))
    else None

abbrev pub reached_by : (call : ℕ) → Option ℕ → List Call → List Call
reached_by c None calls = calls
reached_by c (Some cookie) calls = with_row (got cookie) no_call c calls

-- What the Leave of a call with S_OK does to the objects.
abbrev pub changed_by : List Source → Option Call → Option Value → List Source
changed_by objects None v = objects
changed_by objects (Some r) v =
    if on_source objects r
    then (if r.method == advise then with_row (took (result_cookie v)) no_source r.object objects
    else if r.method == unadvise then with_row (lost r.number) no_source r.object objects
    else objects)
    else objects

-- ---- entries

abbrev pub makes_in : List (Option ℕ) → Asked → Book → Book
makes_in sources class b = record {
  objects = b.objects ++ (made sources class ∷ []);
  calls = b.calls;
  lanes = b.lanes;
}

abbrev pub issues_in : (lane call : ℕ) → (object : Option ℕ) → (iface method : ℕ) → Book → Book
issues_in l c o i m b = record {
  objects = b.objects;
  calls =
      reached_by (top_in (stack_in b.lanes l)) (next_of b.objects
      (row_at b.calls (top_in (stack_in b.lanes l)))) b.calls
      ++ (called c o i m ∷ []);
  lanes = opened_in l 0 b.lanes;
}

abbrev pub enters_in : (lane call : ℕ) → List Value → Book → Book
enters_in l c vs b = record {
  objects = b.objects;
  calls = with_row (begun b.objects (first_number vs)) no_call c b.calls;
  lanes = opened_in l c b.lanes;
}

abbrev pub leaves_in : (lane call : ℕ) → (ok : Bool) → Option Value → Book → Book
leaves_in l c ok v b = record {
  objects = if ok then changed_by b.objects (row_at b.calls c) v else b.objects;
  calls = with_row ended no_call c b.calls;
  lanes = closed_in l b.lanes;
}

abbrev pub opens_in : (lane : ℕ) → Book → Book
opens_in l b = record { objects = b.objects; calls = b.calls; lanes = opened_in l 0 b.lanes }

abbrev pub closes_in : (lane : ℕ) → Book → Book
closes_in l b = record { objects = b.objects; calls = b.calls; lanes = closed_in l b.lanes }

abbrev pub done_in : List (Option ℕ) → (lane : ℕ) → Deed → Book → Book
done_in sources l (deed.Made (Some o) (Some a) class iface hr) b = makes_in sources class b
done_in sources l (deed.Out c o i m r k bytes) b = issues_in l c o i m b
done_in sources l (deed.Enter c o a t vs) b = enters_in l c vs b
done_in sources l (deed.Leave c hr v bytes) b = leaves_in l c (is_S_OK hr) v b
done_in sources l (deed.Pump n) b = opens_in l b
done_in sources l deed.EndPump b = closes_in l b
done_in sources l (deed.Back c hr v) b = closes_in l b
done_in sources l _ b = b

abbrev pub after : List (Option ℕ) → Entry → Book → Book
after sources e b = done_in sources e.lane e.deed b

-- The book of a history.
abbrev pub told : List (Option ℕ) → List Entry → Book
told sources [] = empty
told sources (e ∷ h) = after sources e (told sources h)

-- The book after entries in the order of their making.
abbrev pub goes_on : List (Option ℕ) → List Entry → Book → Book
goes_on sources [] b = b
goes_on sources (e ∷ es) b = goes_on sources es (after sources e b)

-- ---- what is read of it

abbrev pub delivery : Call → Delivery
delivery r = record { call = r.call; object = r.object; cookies = r.cookies }

abbrev pub events : List Source → List Call → List Delivery
events objects [] = []
events objects (r ∷ rs) =
    if is_event objects r && r.has_left then delivery r ∷ events objects rs else events objects rs

-- The events whose bodies left, by call number, each with the cookies of the sinks to which its Outs went.
abbrev pub deliveries_in : Book → List Delivery
deliveries_in b = events b.objects b.calls
