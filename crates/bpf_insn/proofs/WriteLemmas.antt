-- The image of a program as it is written, instruction by instruction.
use Rattle.std.proofs.Common.{◌≡◌, ℕ, List, [], ◌∷◌, ◌++◌, ap, sym, ◌∙◌, subst}
use Rattle.std.specs.Prelude.{Option, Result, Ok, Err, OnOk, OnErr}
use Rattle.std.specs.Io.KnownBytes.{Appends}
use Rattle.std.proofs.KnownBytes.{Appends-nil, Appends-trans}
use Rattle.std.proofs.lemmas.List.{append_assoc, append-nil}
use Rattle.std.proofs.lemmas.Grind.{flat_map-append}
use Rattle.bpf_insn.specs.Image.{image, instruction_bytes}
use Rattle.bpf_insn.specs.Written.{AppendsBeginning, Gathers}
use Rattle.bpf_insn.specs.declared.order.Order.{Order}
use Rattle.bpf_insn.specs.declared.instruction.Insn.{Insn}
use Rattle.bpf_insn.proofs.WalkLemmas.{image_more}

-- ---- bytes that wait

-- nothing was put yet
pub gathers_nothing : (a : Option (List ℕ)) (p : List ℕ) → Gathers a a p p []
gathers_nothing a p = record { sent = []; parts = append-nil p; appends = Appends-nil a }

-- bytes were put, and then more
pub gathers_more : (a b c : Option (List ℕ)) (p q r x y : List ℕ) → Gathers a b p q x → Gathers b c q r y → Gathers a c p r (x ++ y)
gathers_more a b c p q r x y h k = record {
  sent = h.sent ++ k.sent;
  parts = sym (append_assoc p x y) ∙ ap (λ l. l ++ y) h.parts ∙ append_assoc h.sent q y ∙ ap (λ l. h.sent ++ l) k.parts ∙ sym (append_assoc h.sent k.sent r);
  appends = Appends-trans a b c h.sent k.sent h.appends k.appends;
}

-- what began what waited and a front of the bytes began what waited and all of them
pub waits_first : (a b : Option (List ℕ)) (p x y : List ℕ) → AppendsBeginning a b (p ++ x) → AppendsBeginning a b (p ++ (x ++ y))
waits_first a b p x y h = record { begun = h.begun; left = h.left ++ y; is_whole = sym (append_assoc p x y) ∙ ap (λ l. l ++ y) h.is_whole ∙ append_assoc h.begun h.left y; appends = h.appends }

-- bytes were put, and of what then waited and more a beginning went out
pub waits_later : (a b c : Option (List ℕ)) (p q x y : List ℕ) → Gathers a b p q x → AppendsBeginning b c (q ++ y) → AppendsBeginning a c (p ++ (x ++ y))
waits_later a b c p q x y h k = record {
  begun = h.sent ++ k.begun;
  left = k.left;
  is_whole = sym (append_assoc p x y) ∙ ap (λ l. l ++ y) h.parts ∙ append_assoc h.sent q y ∙ ap (λ l. h.sent ++ l) k.is_whole ∙ sym (append_assoc h.sent k.begun k.left);
  appends = Appends-trans a b c h.sent k.begun h.appends k.appends;
}

-- a fact serves where it is asked for at an error alone
pub on_err : {T E P : Type 0} (r : Result T E) → P → OnErr r P
on_err (Ok x) p = tt
on_err (Err e) p = p

-- a step from fact to fact, at an answer or at an error
pub on_ok_map : {T E P Q : Type 0} (r : Result T E) → (P → Q) → OnOk r P → OnOk r Q
on_ok_map (Ok x) f p = f p
on_ok_map (Err e) f p = tt

pub on_err_map : {T E P Q : Type 0} (r : Result T E) → (P → Q) → OnErr r P → OnErr r Q
on_err_map (Ok x) f p = tt
on_err_map (Err e) f p = f p

-- bytes were kept, with nothing sent
pub gathers_kept : (a : Option (List ℕ)) (p q x : List ℕ) → q ≡ p ++ x → Gathers a a p q x
gathers_kept a p q x e = record { sent = []; parts = sym e; appends = Appends-nil a }

-- what waits was sent
pub gathers_sent : (a b : Option (List ℕ)) (p q r x : List ℕ) → q ≡ p ++ x → r ≡ [] → Appends a b q → Gathers a b p r x
gathers_sent a b p q r x e none h = record { sent = q; parts = sym e ∙ sym (append-nil q) ∙ ap (λ l. q ++ l) (sym none); appends = h }

-- bytes were put behind nothing, and then all that waited was written
pub gathered_all : (a b c : Option (List ℕ)) (q x : List ℕ) → Gathers a b [] q x → Appends b c q → Appends a c x
gathered_all a b c q x h k = subst (Appends a c) (sym h.parts) (Appends-trans a b c h.sent q h.appends k)

-- of what waited at the end a beginning went out
pub gathered_some : (a b c : Option (List ℕ)) (q x : List ℕ) → Gathers a b [] q x → AppendsBeginning b c q → AppendsBeginning a c x
gathered_some a b c q x h k = record { begun = h.sent ++ k.begun; left = k.left; is_whole = h.parts ∙ ap (λ l. h.sent ++ l) k.is_whole ∙ sym (append_assoc h.sent k.begun k.left); appends = Appends-trans a b c h.sent k.begun h.appends k.appends }

-- ---- the image, instruction by instruction

pub gathers_image : (order : Order) (a b c : Option (List ℕ)) (q r : List ℕ) (is js : List Insn) (i : Insn) → js ≡ is ++ i ∷ [] → Gathers a b [] q (image order is) → Gathers b c q r (instruction_bytes order i) → Gathers a c [] r (image order js)
gathers_image order a b c q r is js i e h k = subst (Gathers a c [] r) (sym (image_more order is i) ∙ ap (image order) (sym e)) (gathers_more a b c [] q r (image order is) (instruction_bytes order i) h k)

-- of what waited and one more instruction a beginning went out, and so a beginning of the whole
pub begins_more : (order : Order) (a b c : Option (List ℕ)) (q : List ℕ) (all is : List Insn) (i : Insn) (rest : List Insn) → all ≡ (is ++ i ∷ []) ++ rest → Gathers a b [] q (image order is) → AppendsBeginning b c (q ++ instruction_bytes order i) → AppendsBeginning a c (image order all)
begins_more order a b c q all is i rest e h k =
    let whole : image order all ≡ image order is ++ (instruction_bytes order i ++ image order rest) =
    ap (image order) e ∙ flat_map-append (instruction_bytes order) (is ++ i ∷ []) rest ∙ ap (λ xs. xs ++ image order rest) (image_more order is i) ∙ append_assoc (image order is) (instruction_bytes order i) (image order rest) in
    subst (AppendsBeginning a c) (sym whole) (waits_later a b c [] q (image order is) (instruction_bytes order i ++ image order rest) h (waits_first b c q (instruction_bytes order i) (image order rest) k))

pub ruleset gathers = (gathers_more, waits_first, waits_later, gathers_kept, gathered_all, gathered_some)
