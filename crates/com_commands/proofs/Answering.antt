-- The causes of the statuses of an input that was answered.
use Rattle.std.proofs.Common.{◌≡◌, ℕ, ◌⊎◌, inl, inr, List, sym, ◌∙◌, subst, refl, Option, Some}
use Rattle.com_io.specs.Faults.{Rose}
use Rattle.com_io.specs.Told.{IsAtEnd}
use Rattle.com_commands.specs.declared.inputs.Input.{Input}
use Rattle.com_commands.specs.declared.inputs.Input.TheVariants as input
use Rattle.com_commands.specs.declared.statuses.Status.{Status}
use Rattle.com_commands.specs.declared.statuses.Status.TheVariants as status
use Rattle.com_commands.specs.Inputs.{IsAnswer, NoneFits, always}
use Rattle.com_commands.specs.Responses.{Causes, FitsServed, GainsFront, GainsWhole, GivesFront, GivesWhole, IsAnswered, IsWholeAnswer, RespondsWhole}
use Rattle.com_commands.specs.Statuses.{Concludes, IsEnd, Says, Sides, code_of}

-- ---- a refusal

more_fits : {T : Type 0} (Fits : T → Status → List ℕ → Type 0) (i : Input T) (s : Status) (text : List ℕ)
    → IsAnswer NoneFits i s text → IsAnswer Fits i s text
more_fits Fits input.TooLong s text is = is
more_fits Fits (input.Faulty fault) s text is = is
more_fits Fits (input.Reads read) s text is = absurd is

refused_whole : {T : Type 0} (ask : List ℕ → Input T) (Fits : T → Status → List ℕ → Type 0) (s : Status) (sides : Sides)
    → GivesWhole ask NoneFits s sides → GivesWhole ask Fits s sides
refused_whole ask Fits s sides gives = record {
  input = gives.input;
  which = gives.which;
  whole = record {
    text = gives.whole.text;
    answer = more_fits Fits gives.input s gives.whole.text gives.whole.answer;
    gained = gives.whole.gained;
  };
}

refused_front : {T : Type 0} (ask : List ℕ → Input T) (Fits : T → Status → List ℕ → Type 0) (sides : Sides)
    → GivesFront ask NoneFits sides → GivesFront ask Fits sides
refused_front ask Fits sides gives = record {
  input = gives.input;
  which = gives.which;
  front = record {
    status = gives.front.status;
    text = gives.front.text;
    answer = more_fits Fits gives.input gives.front.status gives.front.text gives.front.answer;
    gained = gives.front.gained;
  };
}

-- What refuses every input that can be read refuses this one.
pub refused_causes : {T : Type 0} (ask : List ℕ → Input T) (Fits : T → Status → List ℕ → Type 0) (s : Status) (sides : Sides)
    → Causes ask NoneFits s sides → Causes ask Fits s sides
unfolding Causes
refused_causes ask Fits status.Done sides (end, whole) = (end, refused_whole ask Fits status.Done sides whole)
refused_causes ask Fits status.Usage sides cause = cause
refused_causes ask Fits status.Refused sides whole = refused_whole ask Fits status.Refused sides whole
refused_causes ask Fits status.ReadFault sides cause = cause
refused_causes ask Fits status.WriteFault sides (rose, inl front) = (rose, inl (refused_front ask Fits sides front))
refused_causes ask Fits status.WriteFault sides (rose, inr fault) = (rose, inr fault)
refused_causes ask Fits status.Stuck sides (end, whole) = (end, refused_whole ask Fits status.Stuck sides whole)
refused_causes ask Fits status.Budget sides (end, whole) = (end, refused_whole ask Fits status.Budget sides whole)
refused_causes ask Fits status.Differs sides (end, whole) = (end, refused_whole ask Fits status.Differs sides whole)
refused_causes ask Fits status.Memory sides (inl same) = inl same
refused_causes ask Fits status.Memory sides (inr front) = inr (refused_front ask Fits sides front)

only_refused : {T : Type 0} (i : Input T) (s : Status) (text : List ℕ) → IsAnswer NoneFits i s text → s ≡ status.Refused
only_refused input.TooLong s text is = is.0
only_refused (input.Faulty fault) s text is = is.0
only_refused (input.Reads read) s text is = absurd is

no_end : {T : Type 0} (ask : List ℕ → Input T) (s : Status) (sides : Sides) → GivesWhole ask NoneFits s sides → IsEnd s → ⊥
no_end ask s sides gives end =
    subst (λ (x : Status). IsEnd x) (only_refused gives.input s gives.whole.text gives.whole.answer) end

-- A refusal has no status of the end of a history.
pub refused_serves : {T : Type 0} (ask : List ℕ → Input T) (Fits : T → Status → List ℕ → Type 0) (served : T → List ℕ → List ℕ) (s : Status) (sides : Sides)
    (steps steps_after : List ℕ) → Causes ask NoneFits s sides → IsEnd s → GivesWhole ask (FitsServed Fits served steps steps_after) s sides
unfolding Causes
refused_serves ask Fits served status.Done sides steps steps_after (at_end, whole) end = absurd (no_end ask status.Done sides whole end)
refused_serves ask Fits served status.Stuck sides steps steps_after (at_end, whole) end = absurd (no_end ask status.Stuck sides whole end)
refused_serves ask Fits served status.Budget sides steps steps_after (at_end, whole) end = absurd (no_end ask status.Budget sides whole end)
refused_serves ask Fits served _ sides steps steps_after cause end = absurd end

-- ---- an answer

-- Which statuses answer what was read.
abbrev pub Concluding : (Status → List ℕ → Type 0) → Type 0
Concluding Answer = (s : Status) (text : List ℕ) → Answer s text → Concludes s

whole_causes : {T : Type 0} (ask : List ℕ → Input T) (Fits : T → Status → List ℕ → Type 0) (s : Status) (sides : Sides)
    → Concludes s → IsAtEnd sides.left_after → GivesWhole ask Fits s sides → Causes ask Fits s sides
unfolding Causes
whole_causes ask Fits status.Done sides concludes end whole = (end, whole)
whole_causes ask Fits status.Refused sides concludes end whole = whole
whole_causes ask Fits status.Stuck sides concludes end whole = (end, whole)
whole_causes ask Fits status.Budget sides concludes end whole = (end, whole)
whole_causes ask Fits status.Differs sides concludes end whole = (end, whole)
whole_causes ask Fits _ sides concludes end whole = absurd concludes

gives_whole : {T : Type 0} (ask : List ℕ → Input T) (Fits : T → Status → List ℕ → Type 0) (read : T) (s : Status) (sides : Sides)
    → ((bytes : List ℕ) → sides.left ≡ Some bytes → ask bytes ≡ input.Reads read)
    → GainsWhole (Fits read) s sides.held sides.held_after → GivesWhole ask Fits s sides
gives_whole ask Fits read s sides which whole = record {
  input = input.Reads read;
  which = which;
  whole = record { text = whole.text; answer = whole.answer; gained = whole.gained };
}

gives_front : {T : Type 0} (ask : List ℕ → Input T) (Fits : T → Status → List ℕ → Type 0) (read : T) (sides : Sides)
    → ((bytes : List ℕ) → sides.left ≡ Some bytes → ask bytes ≡ input.Reads read)
    → GainsFront (Fits read) sides.held sides.held_after → GivesFront ask Fits sides
gives_front ask Fits read sides which front = record {
  input = input.Reads read;
  which = which;
  front = record { status = front.status; text = front.text; answer = front.answer; gained = front.gained };
}

fault_causes_by : {T : Type 0} (ask : List ℕ → Input T) (Fits : T → Status → List ℕ → Type 0) (sides : Sides)
    → Rose sides.write_faults sides.write_faults_after → GivesFront ask Fits sides → Causes ask Fits status.WriteFault sides
unfolding Causes
fault_causes_by ask Fits sides rose front = (rose, inl front)

pub same_causes : {T : Type 0} (ask : List ℕ → Input T) (Fits : T → Status → List ℕ → Type 0) (sides : Sides)
    → sides.held_after ≡ sides.held → Causes ask Fits status.Memory sides
unfolding Causes
same_causes ask Fits sides same = inl same

front_causes : {T : Type 0} (ask : List ℕ → Input T) (Fits : T → Status → List ℕ → Type 0) (sides : Sides)
    → GivesFront ask Fits sides → Causes ask Fits status.Memory sides
unfolding Causes
front_causes ask Fits sides front = inr front

-- What was read was answered.
pub answered_causes : {T : Type 0} (ask : List ℕ → Input T) (Fits : T → Status → List ℕ → Type 0) (read : T) (s : Status) (sides : Sides)
    → ((bytes : List ℕ) → sides.left ≡ Some bytes → ask bytes ≡ input.Reads read) → IsAtEnd sides.left_after
    → Concluding (Fits read)
    → IsAnswered (Fits read) s sides.held sides.held_after sides.write_faults sides.write_faults_after
    → Causes ask Fits s sides
answered_causes ask Fits read s sides which end concluding (inl whole) =
    whole_causes ask Fits s sides (concluding s whole.text whole.answer) end (gives_whole ask Fits read s sides which whole)
answered_causes ask Fits read s sides which end concluding (inr (inl part)) =
    subst (λ (x : Status). Causes ask Fits x sides) (sym part.0)
    (fault_causes_by ask Fits sides part.1 (gives_front ask Fits read sides which part.2))
answered_causes ask Fits read s sides which end concluding (inr (inr (is, inl same))) =
    subst (λ (x : Status). Causes ask Fits x sides) (sym is) (same_causes ask Fits sides same)
answered_causes ask Fits read s sides which end concluding (inr (inr (is, inr front))) =
    subst (λ (x : Status). Causes ask Fits x sides) (sym is) (front_causes ask Fits sides (gives_front ask Fits read sides which front))

-- Where it was answered by the end of a history, the servants counted that history.
pub answered_serves : {T : Type 0} (ask : List ℕ → Input T) (Fits : T → Status → List ℕ → Type 0) (served : T → List ℕ → List ℕ) (read : T) (s : Status) (sides : Sides)
    (steps steps_after : List ℕ)
    → ((bytes : List ℕ) → sides.left ≡ Some bytes → ask bytes ≡ input.Reads read)
    → IsAnswered (Fits read) s sides.held sides.held_after sides.write_faults sides.write_faults_after
    → (IsEnd s → steps_after ≡ served read steps)
    → IsEnd s → GivesWhole ask (FitsServed Fits served steps steps_after) s sides
answered_serves ask Fits served read s sides steps steps_after which (inl whole) counted end = record {
  input = input.Reads read;
  which = which;
  whole = record { text = whole.text; answer = (whole.answer, counted end); gained = whole.gained };
}
answered_serves ask Fits served read s sides steps steps_after which (inr (inl part)) counted end =
    absurd (subst (λ (x : Status). IsEnd x) part.0 end)
answered_serves ask Fits served read s sides steps steps_after which (inr (inr part)) counted end =
    absurd (subst (λ (x : Status). IsEnd x) part.0 end)

-- ---- one text

-- A text that was said answers.
pub said_answered : (Answer : Status → List ℕ → Type 0) (result s : Status) (text : List ℕ) (held held_after : Option (List ℕ)) (faults faults_after : ℕ)
    → Answer s text → Says result s text held held_after faults faults_after → IsAnswered Answer result held held_after faults faults_after
said_answered Answer result s text held held_after faults faults_after is (inl whole) =
    inl (record { text = text; answer = subst (λ (x : Status). Answer x text) (sym whole.0) is; gained = whole.1 })
said_answered Answer result s text held held_after faults faults_after is (inr part) =
    inr (inl (part.0, part.1, record { status = s; text = text; answer = is; gained = part.2 }))

-- Nothing was written.
pub unwritten_answered : (Answer : Status → List ℕ → Type 0) (held held_after : Option (List ℕ)) (faults faults_after : ℕ)
    → held_after ≡ held → IsAnswered Answer status.Memory held held_after faults faults_after
unwritten_answered Answer held held_after faults faults_after same = inr (inr (refl, inl same))

pub said_causes : {T : Type 0} (ask : List ℕ → Input T) (Fits : T → Status → List ℕ → Type 0) (read : T) (result s : Status) (text : List ℕ) (sides : Sides)
    → ((bytes : List ℕ) → sides.left ≡ Some bytes → ask bytes ≡ input.Reads read) → IsAtEnd sides.left_after
    → Concluding (Fits read) → Fits read s text
    → Says result s text sides.held sides.held_after sides.write_faults sides.write_faults_after
    → Causes ask Fits result sides
said_causes ask Fits read result s text sides which end concluding is said =
    answered_causes ask Fits read result sides which end concluding
    (said_answered (Fits read) result s text sides.held sides.held_after sides.write_faults sides.write_faults_after is said)

-- What was said of a status that goes with a text is no want of memory.
pub said_no_memory : (result s : Status) (text : List ℕ) (held held_after : Option (List ℕ)) (faults faults_after : ℕ)
    → Concludes s → Says result s text held held_after faults faults_after → result ≡ status.Memory → held_after ≡ held
said_no_memory result s text held held_after faults faults_after concludes (inl whole) is =
    absurd (subst (λ (x : Status). Concludes x) (sym whole.0 ∙ is) concludes)
said_no_memory result s text held held_after faults faults_after concludes (inr part) is =
    let no : status.WriteFault ≡ status.Memory = sym part.0 ∙ is in absurd (cc)

-- ---- no input

pub alone_causes : {T : Type 0} (Fits : T → Status → List ℕ → Type 0) (read : T) (s : Status) (sides : Sides)
    → IsAtEnd sides.left_after → Concluding (Fits read)
    → IsAnswered (Fits read) s sides.held sides.held_after sides.write_faults sides.write_faults_after
    → Causes (always read) Fits s sides
alone_causes Fits read s sides end concluding answered =
    answered_causes (always read) Fits read s sides (λ bytes e. refl) end concluding answered

pub alone_serves : {T : Type 0} (Fits : T → Status → List ℕ → Type 0) (served : T → List ℕ → List ℕ) (read : T) (s : Status) (sides : Sides)
    (steps steps_after : List ℕ)
    → IsAnswered (Fits read) s sides.held sides.held_after sides.write_faults sides.write_faults_after
    → (IsEnd s → steps_after ≡ served read steps)
    → IsEnd s → GivesWhole (always read) (FitsServed Fits served steps steps_after) s sides
alone_serves Fits served read s sides steps steps_after answered counted end =
    answered_serves (always read) Fits served read s sides steps steps_after (λ bytes e. refl) answered counted end

-- ---- every cause is complete

given_whole : {T : Type 0} (ask : List ℕ → Input T) (Fits : T → Status → List ℕ → Type 0) (s : Status) (code : ℕ) (sides : Sides) (bytes : List ℕ)
    → code ≡ code_of s → GivesWhole ask Fits s sides → sides.left ≡ Some bytes
    → IsWholeAnswer ask Fits code sides bytes ⊎ (code ≡ 9)
given_whole {T} ask Fits s code sides bytes e gives told = inl (record {
  status = s;
  number = e;
  whole = subst (λ (i : Input T). GainsWhole (IsAnswer Fits i) s sides.held sides.held_after) (sym (gives.which bytes told)) gives.whole;
})

complete_by : {T : Type 0} (ask : List ℕ → Input T) (Fits : T → Status → List ℕ → Type 0) (s : Status) (code : ℕ) (sides : Sides) (bytes : List ℕ)
    → code ≡ code_of s → Causes ask Fits s sides → sides.left ≡ Some bytes
    → (Rose sides.read_faults sides.read_faults_after → ⊥) → (Rose sides.write_faults sides.write_faults_after → ⊥)
    → IsWholeAnswer ask Fits code sides bytes ⊎ (code ≡ 9)
unfolding Causes
complete_by ask Fits status.Done code sides bytes e cause told calm_source calm_sink = given_whole ask Fits status.Done code sides bytes e cause.1 told
complete_by ask Fits status.Usage code sides bytes e cause told calm_source calm_sink = absurd cause
complete_by ask Fits status.Refused code sides bytes e cause told calm_source calm_sink = given_whole ask Fits status.Refused code sides bytes e cause told
complete_by ask Fits status.ReadFault code sides bytes e cause told calm_source calm_sink = absurd (calm_source cause.rose)
complete_by ask Fits status.WriteFault code sides bytes e cause told calm_source calm_sink = absurd (calm_sink cause.0)
complete_by ask Fits status.Stuck code sides bytes e cause told calm_source calm_sink = given_whole ask Fits status.Stuck code sides bytes e cause.1 told
complete_by ask Fits status.Budget code sides bytes e cause told calm_source calm_sink = given_whole ask Fits status.Budget code sides bytes e cause.1 told
complete_by ask Fits status.Differs code sides bytes e cause told calm_source calm_sink = given_whole ask Fits status.Differs code sides bytes e cause.1 told
complete_by ask Fits status.Memory code sides bytes e cause told calm_source calm_sink = inr e

pub responds_whole : {T : Type 0} (ask : List ℕ → Input T) (Fits : T → Status → List ℕ → Type 0) → RespondsWhole ask Fits
responds_whole ask Fits code sides bytes responds told calm_source calm_sink =
    complete_by ask Fits responds.status code sides bytes responds.number responds.cause told calm_source calm_sink
