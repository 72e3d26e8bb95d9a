-- An image is the image of one list, and bytes are not both the image of a program and refused.
use Rattle.std.proofs.Common.{◌≡◌, ℕ, ◌+◌, ◌*◌, ◌-◌, ◌<◌, ◌≤◌, inl, inr, List, [], ◌∷◌, ◌++◌, length, take, drop, refl, ap, ap₂, sym, ◌∙◌, subst, arith}
use Rattle.std.specs.Prelude.{Option, Some, None}
use Rattle.std.proofs.lemmas.List.{append_assoc, append-nil, length-append, take-append-drop, length-drop, length-take}
use Rattle.bpf_insn.specs.Instruction.{layout, slots, slot_count, FailsFirst, EachSlot}
use Rattle.bpf_insn.specs.Image.{image, instruction_bytes, HasEncoding, AllHaveEncoding, HasTarget, IsImage, IsProgram}
use Rattle.bpf_insn.specs.Limits.{max_slots}
use Rattle.bpf_insn.specs.Refusal.{refusal_here, IsRefused, BeginsAt, IsBadLength}
use Rattle.bpf_insn.specs.Refusal.IsRefused.{bad_length, bad_slot, bad_target}
use Rattle.bpf_insn.specs.code.Decoding.{insn_in_bytes}
use Rattle.bpf_insn.specs.code.Layout.{instructions_in, cells_from}
use Rattle.bpf_insn.specs.Laws.{AreBytes, BeginsWithInsn, IsImageOfProgram}
use Rattle.bpf_insn.specs.declared.order.Order.{Order}
use Rattle.bpf_insn.specs.declared.refusal.SlotFault.{SlotFault}
use Rattle.bpf_insn.specs.declared.refusal.DecodeError.{DecodeError}
use Rattle.bpf_insn.specs.declared.refusal.DecodeError.TheVariants.{Slot, Target}
use Rattle.std.proofs.Math.Seq.{take-add}
use Rattle.bpf_insn.specs.declared.instruction.Insn.{Insn}
use Rattle.bpf_insn.specs.declared.instruction.Insn.TheVariants.{LoadImm64}
use Rattle.bpf_insn.proofs.ProgramLemmas.{instructions_in-layout}
use Rattle.bpf_insn.proofs.BeginLemmas.{begins}
use Rattle.bpf_insn.proofs.FaultLemmas.{no_fault, insn_in_bytes-insn}
use Rattle.bpf_insn.proofs.WalkLemmas.{image_length, cells_from-image}

-- the instructions of an image, from its slots
decoded : (order : Order) (is : List Insn) → AllHaveEncoding is → instructions_in (cells_from order (slots is) (image order is)) ≡ is
decoded order is h = ap instructions_in (cells_from-image order is h) ∙ instructions_in-layout is

same_slots : (order : Order) (is js : List Insn) → image order is ≡ image order js → slots is ≡ slots js
same_slots order is js e = let eight : 8 * slots is ≡ 8 * slots js = sym (image_length order is) ∙ ap length e ∙ image_length order js in omega arith

pub image_is_injective : (order : Order) (is js : List Insn) → AllHaveEncoding is → AllHaveEncoding js → image order is ≡ image order js → is ≡ js
image_is_injective order is js hi hj e =
    sym (decoded order is hi) ∙ ap₂ (λ n xs. instructions_in (cells_from order n xs)) (same_slots order is js e) e ∙ decoded order js hj

-- ---- a slot without a fault

pub fault_free : (order : Order) (bytes : List ℕ) → AreBytes bytes → 8 ≤ length bytes → refusal_here order bytes ≡ None → BeginsWithInsn order bytes
fault_free order bytes h long e =
    let b = begins order bytes h long e in
    record { insn = b.insn; encoding = b.encoding; rest = drop (8 * slot_count b.insn) bytes; bytes_are = sym (take-append-drop (8 * slot_count b.insn) bytes) ∙ ap (λ xs. xs ++ drop (8 * slot_count b.insn) bytes) b.bytes_are }

pub begins_free : (order : Order) (bytes : List ℕ) → BeginsWithInsn order bytes → refusal_here order bytes ≡ None
begins_free order bytes b = ap (refusal_here order) b.bytes_are ∙ no_fault order b.insn b.rest b.encoding

-- ---- an image behind whole instructions

same_first : (order : Order) (i j : Insn) (xs ys : List ℕ) → HasEncoding i → HasEncoding j → instruction_bytes order i ++ xs ≡ instruction_bytes order j ++ ys → i ≡ j
same_first order i j xs ys hi hj e =
    let found : Some i ≡ Some j = sym (insn_in_bytes-insn order i xs hi) ∙ ap (insn_in_bytes order) e ∙ insn_in_bytes-insn order j ys hj in
    cc

cancel : (xs ys zs : List ℕ) → xs ++ ys ≡ xs ++ zs → ys ≡ zs
cancel [] ys zs e = e
cancel (x ∷ xs) ys zs e = let tail : xs ++ ys ≡ xs ++ zs = cc in cancel xs ys zs tail

-- what stands in an image behind instructions is an image too
record Behind (order : Order) (rest : List ℕ) : Type 0 where
  is : List Insn
  encoding : AllHaveEncoding is
  bytes_are : image order is ≡ rest

some_slots : (i : Insn) (is : List Insn) → 0 < slots (i ∷ is)
some_slots (LoadImm64 dst value) is = omega arith
some_slots i is = omega arith

behind : (order : Order) (is before : List Insn) (rest : List ℕ) → AllHaveEncoding is → AllHaveEncoding before → image order is ≡ image order before ++ rest → Behind order rest
behind order is [] rest hi hb e = record { is = is; encoding = hi; bytes_are = e }
behind order [] (b ∷ before) rest hi hb e =
    let long : length (image order (b ∷ before) ++ rest) ≡ length (image order (b ∷ before)) + length rest = length-append (image order (b ∷ before)) rest in
    let none : 0 ≡ length (image order (b ∷ before) ++ rest) = ap length e in
    let count : length (image order (b ∷ before)) ≡ 8 * slots (b ∷ before) = image_length order (b ∷ before) in
    let some : 0 < slots (b ∷ before) = some_slots b before in
    absurd (omega arith)
behind order (i ∷ is) (b ∷ before) rest hi hb e =
    let joined : instruction_bytes order i ++ image order is ≡ instruction_bytes order b ++ (image order before ++ rest) = e ∙ append_assoc (instruction_bytes order b) (image order before) rest in
    let same : i ≡ b = same_first order i b (image order is) (image order before ++ rest) hi.0 hb.0 joined in
    let aligned : instruction_bytes order b ++ image order is ≡ instruction_bytes order b ++ (image order before ++ rest) = ap (λ j. instruction_bytes order j ++ image order is) (sym same) ∙ joined in
    behind order is before rest hi.1 hb.1 (cancel (instruction_bytes order b) (image order is) (image order before ++ rest) aligned)

-- what begins an image has no fault, whatever follows
free_behind : (order : Order) (front rest : List ℕ) → Behind order front → 0 < length front → refusal_here order (front ++ rest) ≡ None
free_behind order front rest b some = go b.is b.encoding b.bytes_are where
  go : (is : List Insn) → AllHaveEncoding is → image order is ≡ front → refusal_here order (front ++ rest) ≡ None
  go [] h e = let none : 0 ≡ length front = ap length e in absurd (omega arith)
  go (i ∷ is) h e = ap (λ xs. refusal_here order (xs ++ rest)) (sym e) ∙ ap (refusal_here order) (append_assoc (instruction_bytes order i) (image order is) rest) ∙ no_fault order i (image order is ++ rest) h.0

clash : (r : Option SlotFault) (fault : SlotFault) → r ≡ None → r ≡ Some fault → ⊥
clash r fault e f = cc

faultless : (order : Order) (bytes : List ℕ) (is : List Insn) (slot : ℕ) (fault : SlotFault) → AllHaveEncoding is → bytes ≡ image order is → BeginsAt order bytes slot → refusal_here order (drop (8 * slot) bytes) ≡ Some fault → ⊥
faultless order bytes is slot fault h e b f =
    let split : image order is ≡ image order b.before ++ drop (8 * slot) bytes = sym e ∙ sym (take-append-drop (8 * slot) bytes) ∙ ap (λ xs. xs ++ drop (8 * slot) bytes) b.bytes_before in
    let inside = b.inside in
    let some : 0 < length (drop (8 * slot) bytes) = rw (length-drop (8 * slot) bytes) (omega arith) in
    let free = free_behind order (drop (8 * slot) bytes) [] (behind order is b.before (drop (8 * slot) bytes) h b.encoding split) some in
    clash (refusal_here order (drop (8 * slot) bytes)) fault (ap (refusal_here order) (sym (append-nil (drop (8 * slot) bytes))) ∙ free) f

good_length : (bytes : List ℕ) (n : ℕ) → length bytes ≡ 8 * n → 0 < n → n ≤ max_slots → IsBadLength bytes → ⊥
good_length bytes n e some few (inl h) = absurd (omega arith)
good_length bytes n e some few (inr (inl h)) = absurd (omega arith)
good_length bytes n e some few (inr (inr h)) = absurd (omega arith)

reached : (is js : List Insn) (slot : ℕ) → is ≡ js → EachSlot (HasTarget (layout is)) (layout is) → FailsFirst (HasTarget (layout js)) (layout js) slot → ⊥
reached is js slot e targets m = m.fails (subst (λ xs. EachSlot (HasTarget (layout xs)) (layout xs)) e targets slot m.insn m.stands)

pub never_both : (order : Order) (bytes : List ℕ) (is : List Insn) (error : DecodeError) → IsImageOfProgram order bytes is → IsRefused order bytes error → ⊥
never_both order bytes is error p (bad_length h) = good_length bytes (slots is) (ap length p.bytes_are ∙ image_length order is) p.program.some_slot p.program.few_slots h
never_both order bytes is error p (bad_slot good b f) = faultless order bytes is _ _ p.program.encoding p.bytes_are b f
never_both order bytes is error p (bad_target good m) = reached is m.is _ (image_is_injective order is m.is p.program.encoding m.encoding (sym p.bytes_are ∙ m.bytes_are)) p.program.targets m.lowest

-- ---- one refusal

-- no lower slot has a fault than the first that has one
not_lower : (order : Order) (bytes : List ℕ) (low high : ℕ) (fault : SlotFault) → low < high → BeginsAt order bytes low → refusal_here order (drop (8 * low) bytes) ≡ Some fault → BeginsAt order bytes high → ⊥
not_lower order bytes low high fault less b f c =
    let rest = drop (8 * low) bytes in
    let gap = 8 * (high - low) in
    let inside = c.inside in
    let split : 8 * high ≡ 8 * low + 8 * (high - low) = omega arith in
    let joined : image order c.before ≡ image order b.before ++ take (8 * (high - low)) rest = sym c.bytes_before ∙ ap (λ n. take n bytes) split ∙ take-add (8 * low) (8 * (high - low)) bytes ∙ ap (λ xs. xs ++ take (8 * (high - low)) rest) b.bytes_before in
    let some : 0 < length (take (8 * (high - low)) rest) = rw (length-take (8 * (high - low)) rest, length-drop (8 * low) bytes) (omega arith) in
    let free = free_behind order (take (8 * (high - low)) rest) (drop (8 * (high - low)) rest) (behind order c.before b.before (take (8 * (high - low)) rest) c.encoding b.encoding joined) some in
    clash (refusal_here order rest) fault (ap (refusal_here order) (sym (take-append-drop (8 * (high - low)) rest)) ∙ free) f

pub in_order : (m n : ℕ) → (m < n → ⊥) → (n < m → ⊥) → m ≡ n
in_order m n h k = grind arith

same_fault : (f g : SlotFault) → Some f ≡ Some g → f ≡ g
same_fault f g e = cc

pub refused_once : (order : Order) (bytes : List ℕ) (error other : DecodeError) → IsRefused order bytes error → IsRefused order bytes other → error ≡ other
refused_once order bytes error other (bad_length h) (bad_length k) = refl
refused_once order bytes error other (bad_length h) (bad_slot good b f) = absurd (good h)
refused_once order bytes error other (bad_length h) (bad_target good m) = absurd (good h)
refused_once order bytes error other (bad_slot good b f) (bad_length h) = absurd (good h)
refused_once order bytes error other (bad_slot {fault} {slot} good b f) (bad_slot {fault = fault'} {slot = slot'} good' b' f') =
    let same : slot ≡ slot' = in_order slot slot' (λ less. not_lower order bytes slot slot' fault less b f b') (λ more. not_lower order bytes slot' slot fault' more b' f' b) in
    let one : fault ≡ fault' = same_fault fault fault' (sym f ∙ ap (λ s. refusal_here order (drop (8 * s) bytes)) same ∙ f') in
    ap₂ (λ s x. Slot s x) same one
refused_once order bytes error other (bad_slot good b f) (bad_target good' m) = absurd (faultless order bytes m.is _ _ m.encoding m.bytes_are b f)
refused_once order bytes error other (bad_target good m) (bad_length h) = absurd (good h)
refused_once order bytes error other (bad_target good m) (bad_slot good' b f) = absurd (faultless order bytes m.is _ _ m.encoding m.bytes_are b f)
refused_once order bytes error other (bad_target {slot} good m) (bad_target {slot = slot'} good' m') =
    let one : m.is ≡ m'.is = image_is_injective order m.is m'.is m.encoding m'.encoding (sym m.bytes_are ∙ m'.bytes_are) in
    let moved : FailsFirst (HasTarget (layout m'.is)) (layout m'.is) slot = subst (λ is. FailsFirst (HasTarget (layout is)) (layout is) slot) one m.lowest in
    ap (λ s. Target s) (in_order slot slot' (λ less. moved.fails (m'.lowest.lower slot moved.insn less moved.stands)) (λ more. m'.lowest.fails (moved.lower slot' m'.lowest.insn more m'.lowest.stands)))

-- ---- what accepts

-- an answer that is either the program of the bytes or a refusal of them is the program of an image
pub accepted : (order : Order) (bytes : List ℕ) (is js : List Insn) → IsProgram is → bytes ≡ image order is → IsImage order js bytes → js ≡ is
accepted order bytes is js p e k = image_is_injective order js is k.encoding p.encoding (sym k.bytes_are ∙ e)

pub not_refused : (order : Order) (bytes : List ℕ) (is : List Insn) (error : DecodeError) → IsProgram is → bytes ≡ image order is → IsRefused order bytes error → ⊥
not_refused order bytes is error p e r = never_both order bytes is error (record { program = p; bytes_are = e }) r
