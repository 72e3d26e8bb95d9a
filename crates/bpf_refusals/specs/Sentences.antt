-- What the refusals say whose crates have no table, by their numbers and without the place. There is no number 0.
use Rattle.std.specs.Prelude.{◌++◌, ◌∷◌, ℕ, List, [], codes}
use Rattle.bpf_infer_base.specs.HardenNumbers.{harden_texts}

-- why a text is no program, A1 to A7
abbrev pub text_texts : List (List ℕ)
text_texts =
    [] ∷
    codes "the line has no form of the language" ∷
    codes "a number on the line is out of its range" ∷
    codes "a label on the line is defined a second time" ∷
    codes "the label on the line is not defined" ∷
    codes "the label on the line is too far away" ∷
    codes "the instructions are no program" ∷
    codes "out of memory" ∷
    []

-- why a program isn't hardened or certified, H1 to H15
abbrev pub hardening_texts : List (List ℕ)
hardening_texts =
    harden_texts
    ++ codes "the hardened program isn't shown to keep the meaning" ∷
    codes "a run of the hardened program may take more instructions than are paid for" ∷
    codes "the checker refuses the certificate that was found" ∷
    []

-- why a text is none of notes, N1 and N2
abbrev pub notes_texts : List (List ℕ)
notes_texts =
    [] ∷
    codes "the line has no form of a line of notes" ∷
    codes "out of memory" ∷
    []
