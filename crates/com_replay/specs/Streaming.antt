-- What a step of a stream answers.
use Rattle.std.specs.Prelude.{Bool, true, false, ⊤}
use Rattle.com_model.specs.declared.deeds.Entry.{Entry}
use Rattle.com_replay.specs.declared.replayed.Replayed.{Replayed}
use Rattle.com_replay.specs.declared.stream.Step.{Step}
use Rattle.com_replay.specs.declared.stream.Step.TheVariants.{More, Done}
use Rattle.com_replay.specs.Streams.{Position}

-- Whether the history had ended.
abbrev pub is_done : Step → Bool
is_done (More stream entry) = false
is_done (Done replayed) = true

-- Where the history had ended, this is so of the answer.
abbrev pub IfDone : Step → (Replayed → Type 0) → Type 0
IfDone (More stream entry) P = ⊤
IfDone (Done replayed) P = P replayed

-- Where an entry was made, this is so of the stream behind it and of the entry.
abbrev pub IfMore : Step → (Position → Entry → Type 0) → Type 0
IfMore (More stream entry) P = P stream entry
IfMore (Done replayed) P = ⊤
