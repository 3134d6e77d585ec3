-- What a call that converses read, wrote and answered.
use Rattle.std.specs.Prelude.{ℕ, List, ◌++◌, Option, Result, Ok, Err}
use Rattle.std.specs.Io.KnownBytes.{Consumes, Appends, IsAtEnd}
use Rattle.nbd_stream.specs.declared.ending.Ending.{Ending}
use Rattle.nbd_stream.specs.declared.ending.Ending.TheVariants as endings
use Rattle.nbd_session.specs.declared.outcomes.End.{End}
use Rattle.nbd_session.specs.declared.outcomes.End.TheVariants as ends
use Rattle.nbd_session.specs.declared.outcomes.TalkFault.{TalkFault}
use Rattle.nbd_session.specs.declared.outcomes.TalkFault.TheVariants as faults

-- where the answer is that the input ended, the reader had told its end
abbrev pub IsTold : Option (List ℕ) → End → Type 0
IsTold new ends.Over = IsAtEnd new
IsTold new ends.Cut = IsAtEnd new
IsTold new end = Unit {0}

-- how a conversation ends where the reading of its requests ended so
abbrev pub end_by : Ending → Result End TalkFault
end_by endings.Over = Ok ends.Over
end_by endings.Cut = Ok ends.Cut
end_by endings.BadMagic = Ok ends.BadMagic
end_by endings.TooLong = Ok ends.TooLong
end_by endings.ReadFailed = Err faults.ReadFailed
end_by endings.NoMemory = Err faults.NoMemory

module _ {E : Type 0} where
  -- the text is a beginning of what is said to these bytes
  abbrev pub IsBeginning : (List ℕ → List ℕ → E → Type 0) → List ℕ → List ℕ → Type 0
  IsBeginning Says bytes text = (more : List ℕ) × (end : E) × Says bytes (text ++ more) end

  -- What an answer claims of the bytes that were read and the text that was written. An end: this is what is said to
  -- these bytes. A failed read: this is what is said to them, by some end. A failed write or refused memory: this is a
  -- beginning of it.
  abbrev pub Claims : (Option (List ℕ) → E → Type 0) → (List ℕ → List ℕ → E → Type 0) → Option (List ℕ) → List ℕ → List ℕ → Result E TalkFault → Type 0
  Claims Told Says new bytes text (Ok end) = Says bytes text end × Told new end
  Claims Told Says new bytes text (Err faults.ReadFailed) = (end : E) × Says bytes text end
  Claims Told Says new bytes text (Err faults.WriteFailed) = IsBeginning Says bytes text
  Claims Told Says new bytes text (Err faults.NoMemory) = IsBeginning Says bytes text

  -- From the reader's and the writer's known bytes before to those after, with this answer: some bytes were read and a
  -- text was written, nothing else, and of these the answer's claim holds.
  pub record Converses (Told : Option (List ℕ) → E → Type 0) (Says : List ℕ → List ℕ → E → Type 0) (in_old in_new out_old out_new : Option (List ℕ)) (answer : Result E TalkFault) : Type 0 where
    pub bytes : List ℕ
    pub text : List ℕ
    pub took : Consumes in_old in_new bytes
    pub gave : Appends out_old out_new text
    pub claim : Claims Told Says in_new bytes text answer

  -- What was read and written so far, and that whatever goes on from here by Then went on from the start by Says.
  pub record Going (Says Then : List ℕ → List ℕ → E → Type 0) (in_old in_new out_old out_new : Option (List ℕ)) : Type 0 where
    pub bytes : List ℕ
    pub text : List ℕ
    pub took : Consumes in_old in_new bytes
    pub gave : Appends out_old out_new text
    pub onward : (b t : List ℕ) (e : E) → Then b t e → Says (bytes ++ b) (text ++ t) e
