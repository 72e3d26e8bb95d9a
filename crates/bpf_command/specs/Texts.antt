-- Texts that are put at names, one after the other.
use Rattle.std.specs.Prelude.{◌≡◌, ◌⊎◌, ℕ, List, [], ◌∷◌, ◌++◌, true, Option, Some, None}
use Rattle.std.specs.Borrow.{Bor}
use Rattle.std.specs.String.{string_bytes}
use Rattle.bpf_answers.specs.Made.{Making}
use Rattle.bpf_answers.specs.Both.{NotPut}
use Rattle.bpf_answers.specs.declared.failure.Failure.{Failure}
use Rattle.bpf_command.specs.declared.request.hardening.Hardening.{Hardening}
use Rattle.bpf_command.specs.declared.commands.texts.SideTexts.{SideTexts}

-- names, each with the text that is to stand there
abbrev pub NamedTexts : Type 0
NamedTexts = List (Bor (List ℕ) × List ℕ)

-- a text, if a name for it is given
abbrev pub named : Option (Bor (List ℕ)) → List ℕ → NamedTexts
named None text = []
named (Some name) text = (name, text) ∷ []

-- the text of notes, and then that of the changes
abbrev pub notes_and_changes : Hardening → (notes changes : List ℕ) → NamedTexts
notes_and_changes h notes changes = named h.notes notes ++ named h.changes changes

-- the texts of notes and changes that go beside an image
abbrev pub beside_texts : Hardening → SideTexts → NamedTexts
beside_texts h beside = notes_and_changes h beside.notes.items (string_bytes beside.changes)

-- each came to stand at its name
abbrev pub TextsStand : {S : Type 0} → Making S → S → NamedTexts → S → Type 0
TextsStand making old [] new = new ≡ old
TextsStand {S} making old (t ∷ texts) new = (between : S) × making old t.0.now t.1 true between × TextsStand making between texts new

-- each came to stand at its name, and the status is 0
abbrev pub PutTexts : {S : Type 0} → Making S → S → NamedTexts → S → ℕ → Type 0
PutTexts making old texts new = λ status. (status ≡ 0) × TextsStand making old texts new

-- one couldn't be put at its name, and those in front of it stand
abbrev pub TextsFail : {S : Type 0} → Making S → S → NamedTexts → S → Failure → Type 0
TextsFail making old [] new failure = ⊥
TextsFail {S} making old (t ∷ texts) new failure =
    NotPut making old t.0 t.1 new failure ⊎ ((between : S) × making old t.0.now t.1 true between × TextsFail making between texts new failure)
