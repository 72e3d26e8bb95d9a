-- What is said of lines by the kind of the last one, which stands first.
use Rattle.std.proofs.Common.{ℕ, List, [], ◌∷◌}
use Rattle.bpf_cert.specs.Line.{Line, PlaceText, Number, Content, Term, Lengths}

pub by_last : (P : List Line → Type 0) → P []
    → ((ls : List Line) (lengths : Lengths) (steps : List ℕ) → P (Line.header lengths steps ∷ ls))
    → ((ls : List Line) (first depth : List ℕ) (ret : Number) → P (Line.function first depth ret ∷ ls))
    → ((ls : List Line) (at base : List ℕ) (terms : List Term) → P (Line.label at base terms ∷ ls))
    → ((ls : List Line) (p : PlaceText) (c : Content) → P (Line.entry p c ∷ ls))
    → ((ls : List Line) → P (Line.end ∷ ls)) → (ls : List Line) → P ls
by_last P none header function label entry end [] = none
by_last P none header function label entry end (Line.header lengths steps ∷ ls) = header ls lengths steps
by_last P none header function label entry end (Line.function first depth ret ∷ ls) = function ls first depth ret
by_last P none header function label entry end (Line.label at base terms ∷ ls) = label ls at base terms
by_last P none header function label entry end (Line.entry p c ∷ ls) = entry ls p c
by_last P none header function label entry end (Line.end ∷ ls) = end ls
