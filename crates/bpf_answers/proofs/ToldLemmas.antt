-- A line that went out in pieces, or a beginning of it.
use Rattle.std.proofs.Common.{◌≡◌, ℕ, List, [], ◌++◌, Option, Some, None, Result, Ok, Err, OnErr, OnOk, ap, sym, ◌∙◌, subst, append_assoc, append-nil}
use Rattle.std.proofs.KnownBytes.{Appends-trans}
use Rattle.std.specs.Io.KnownBytes.{Appends, Keeps}
use Rattle.bpf_insn.specs.Written.{AppendsBeginning}

-- a beginning of the first piece is one of both
pub begun_first : (old new : Option (List ℕ)) (xs ys : List ℕ) → AppendsBeginning old new xs → AppendsBeginning old new (xs ++ ys)
begun_first old new xs ys h =
    record { begun = h.begun; left = h.left ++ ys; is_whole = ap (λ l. l ++ ys) h.is_whole ∙ append_assoc h.begun h.left ys; appends = h.appends }

-- the first piece, and a beginning of the second
pub begun_second : (old mid new : Option (List ℕ)) (xs ys : List ℕ) → Appends old mid xs → AppendsBeginning mid new ys → AppendsBeginning old new (xs ++ ys)
begun_second old mid new xs ys first h =
    record { begun = xs ++ h.begun; left = h.left; is_whole = ap (λ l. xs ++ l) h.is_whole ∙ sym (append_assoc xs h.begun h.left); appends = Appends-trans old mid new xs h.begun first h.appends }

-- ---- a text in two pieces

pub first_piece : {T E : Type 0} (result : Result T E) (old new : Option (List ℕ)) (xs ys text : List ℕ) → xs ++ ys ≡ text → AppendsBeginning old new xs
    → OnErr result (AppendsBeginning old new text)
first_piece (Ok x) old new xs ys text is h = tt
first_piece (Err e) old new xs ys text is h = subst (AppendsBeginning old new) is (begun_first old new xs ys h)

pub second_piece : {T E : Type 0} (result : Result T E) (old mid new : Option (List ℕ)) (xs ys text : List ℕ) → xs ++ ys ≡ text → Appends old mid xs
    → OnErr result (AppendsBeginning mid new ys) → OnErr result (AppendsBeginning old new text)
second_piece (Ok x) old mid new xs ys text is first h = tt
second_piece (Err e) old mid new xs ys text is first h = subst (AppendsBeginning old new) is (begun_second old mid new xs ys first h)

pub both_pieces : {T E : Type 0} (result : Result T E) (old mid new : Option (List ℕ)) (xs ys text : List ℕ) → xs ++ ys ≡ text → Appends old mid xs
    → OnOk result (Appends mid new ys) → OnOk result (Appends old new text)
both_pieces (Ok x) old mid new xs ys text is first h = subst (Appends old new) is (Appends-trans old mid new xs ys first h)
both_pieces (Err e) old mid new xs ys text is first h = tt

-- ---- the end of a line

-- known bytes that grew and then stayed
kept : (old mid new : Option (List ℕ)) (bs : List ℕ) → Appends old mid bs → Keeps mid new → Appends old new bs
kept None mid new bs grew stayed = tt
kept (Some xs) None new bs grew stayed = absurd grew
kept (Some xs) (Some ys) None bs grew stayed = absurd stayed
kept (Some xs) (Some ys) (Some zs) bs grew stayed = stayed ∙ grew

-- all but the end
pub no_end : {T E : Type 0} (result : Result T E) (old mid new : Option (List ℕ)) (words : List ℕ) → Appends old mid words → OnErr result (Keeps mid new)
    → OnErr result (AppendsBeginning old new words)
no_end (Ok x) old mid new words all stayed = tt
no_end (Err e) old mid new words all stayed = record { begun = words; left = []; is_whole = sym (append-nil words); appends = kept old mid new words all stayed }

-- no byte is nothing
pub none_appended : (old new : Option (List ℕ)) → Appends old new [] → Keeps old new
none_appended None new h = tt
none_appended (Some xs) None h = absurd h
none_appended (Some xs) (Some ys) h = h ∙ append-nil xs
