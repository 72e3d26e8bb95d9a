-- What a load reads.
use Rattle.std.proofs.Common.{◌≡◌, suc, zero, List, ◌∷◌, Option, Some, None, refl, ap, ap₂, sym, subst, length, ◌<◌, ◌≤◌, ◌+◌, ◌%◌, ℕ, arith, ◌∙◌}
use Rattle.std.specs.Prelude.{ℤ, pos, ◌+ℤ◌, get_or, take, drop}
use Rattle.std.proofs.lemmas.Int.{ints}
use Rattle.std.proofs.Math.Seq.{drop-cons}
use Rattle.std.proofs.lemmas.Option.{none-some, same_Some, option_and_then_some}
use Rattle.std.proofs.lemmas.Bool.{leb-true}
use Rattle.bpf_insn.specs.Order.{number_of}
use Rattle.bpf_insn.specs.Arithmetic.{modulo}
use Rattle.bpf_semantics.specs.State.{Cell, State, IsState, depth, frame_bytes, max_frames}
use Rattle.bpf_semantics.specs.State.Cell.{Byte, Part}
use Rattle.bpf_semantics.specs.Memory.{Location, stack_of, inside, location_of, bytes_in, bytes_at, number_at, byte_in}
use Rattle.bpf_semantics.specs.Memory.Location.{InContext, InFrame}
use Rattle.bpf_semantics.specs.Flat.{addresses, Placement, FlatState, frame_start, frame_end, bytes_from, flat_number}
use Rattle.bpf_semantics.specs.Placement.{IsPlacement, Fits, StandsFor, StandsForCell}
use Rattle.bpf_insn.specs.declared.order.Order.{Order}
use Rattle.bpf_semantics.specs.declared.value.Value.{Value}
use Rattle.bpf_semantics.specs.declared.value.Value.TheVariants.{Number, Pointer}
use Rattle.bpf_semantics.specs.declared.value.Region.TheVariants.{Context, Frame as FrameAt}
use Rattle.bpf_semantics.proofs.FlatArith.{modulo_of_small, access_address, modulo_same, modulo-same, same_equal, same_trans, same_plus, same_refl}
use Rattle.bpf_semantics.proofs.StateLemmas.{IsGood, option_map_some, inside_is, cond_option, frame_is}

-- What a load reads.

-- ---- registers

-- the first address of a place
abbrev pub place_address : Placement → Location → ℕ
place_address place (InContext i) = place.context + i
place_address place (InFrame n i) = frame_start place n + i

pub record IsAt (place : Placement) (s : State) (k : ℕ) (off : ℤ) (x : ℕ) (pl : Location) : Type 0 where
  pub good : IsGood s k pl
  pub address_is : modulo (pos x +ℤ off) addresses ≡ place_address place pl

frame_address : (first i : ℕ) (z : ℤ) → z +ℤ pos frame_bytes ≡ pos i → first + i < addresses → modulo (pos ((first + frame_bytes) % addresses) +ℤ z) addresses ≡ first + i
frame_address first i z e small =
    let g : pos (first + frame_bytes) +ℤ z ≡ pos (first + i) = omega (arith, ints) in
    modulo_same (same_trans (same_plus (modulo-same (pos (first + frame_bytes))) (same_refl z)) (same_equal g)) ∙ modulo_of_small (first + i) small

list_address : (first i : ℕ) (z : ℤ) → z ≡ pos i → first + i < addresses → modulo (pos first +ℤ z) addresses ≡ first + i
list_address first i z e small = rw e (modulo_of_small (first + i) small)

-- the flat address of an access is that of its place
pub place_fits : (place : Placement) (s : State) (k : ℕ) (off : ℤ) (base : Value) (x : ℕ) (pl : Location) → 0 < k → IsPlacement (length s.context) place → depth s < max_frames → StandsFor place x (Some base) → location_of s k off base ≡ Some pl → IsAt place s k off x pl
place_fits place s k off (Number n) x pl hk isp few st e = absurd (none-some _ e)
place_fits place s k off (Pointer Context at) x pl hk isp few st e =
    let h = option_map_some InContext (inside k (length s.context) (at +ℤ off)) pl e in
    let g = inside_is k (length s.context) (at +ℤ off) h.0 h.1 in
    let room = isp.context_inside in
    let bound = g.1 in
    let small : place.context + h.0 < addresses = omega arith in
    let a : modulo (pos x +ℤ off) addresses ≡ place.context + h.0 = rw st (access_address place.context at off ∙ list_address place.context h.0 (at +ℤ off) g.0 small) in
    subst (λ pl. IsAt place s k off x pl) h.2 (record { good = g.1; address_is = a })
place_fits place s k off (Pointer (FrameAt n) at) x pl hk isp few st e =
    let d = cond_option _ _ pl e in
    let h = option_map_some (InFrame n) (inside k frame_bytes ((at +ℤ off) +ℤ pos frame_bytes)) pl d.1 in
    let g = inside_is k frame_bytes ((at +ℤ off) +ℤ pos frame_bytes) h.0 h.1 in
    let live = leb-true n (depth s) d.0 in
    let n8 : n < max_frames = omega arith in
    let room = isp.frame_inside n n8 in
    let bound = g.1 in
    let small : frame_start place n + h.0 < addresses = omega arith in
    let a : modulo (pos x +ℤ off) addresses ≡ frame_start place n + h.0 = rw st (access_address (frame_end place n) at off ∙ frame_address (frame_start place n) h.0 (at +ℤ off) g.0 small) in
    subst (λ pl. IsAt place s k off x pl) h.2 (record { good = (live, g.1); address_is = a })

-- ---- bytes

byte_stands : (order : Order) (place : Placement) (x : ℕ) (cell : Option Cell) (b : ℕ) → byte_in cell ≡ Some b → StandsForCell order place x cell → x ≡ b
byte_stands order place x None b e st = absurd (none-some _ e)
byte_stands order place x (Some (Byte c)) b e st = st ∙ same_Some _ _ e
byte_stands order place x (Some (Part i region off)) b e st = absurd (none-some _ e)

pub bytes_in_cells : (order : Order) (place : Placement) (memory : ℕ → ℕ) (first : ℕ) (k i : ℕ) (cells : List (Option Cell)) (bs : List ℕ) → i + k ≤ length cells → first + length cells ≤ addresses → ((j : ℕ) → j < length cells → StandsForCell order place (memory (first + j)) (get_or cells j None)) → bytes_in (take k (drop i cells)) ≡ Some bs → bytes_from memory (first + i) k ≡ bs
bytes_in_cells order place memory first zero i cells bs hk hl fit e = same_Some _ _ e
bytes_in_cells order place memory first (suc k) i cells bs hk hl fit e =
    let lt : i < length cells = omega arith in
    let e1 : bytes_in (get_or cells i None ∷ take k (drop (suc i) cells)) ≡ Some bs = subst (λ xs. bytes_in (take (suc k) xs) ≡ Some bs) (drop-cons cells i None lt) e in
    option_and_then_some _ (byte_in (get_or cells i None)) bs e1 (λ b eb e2.
    let h = option_map_some (λ bs. b ∷ bs) (bytes_in (take k (drop (suc i) cells))) bs e2 in
    let small : (first + i) % addresses ≡ first + i = omega arith in
    let more : first + i + 1 ≡ first + suc i = omega arith in
    let rest : bytes_from memory (first + suc i) k ≡ h.0 = bytes_in_cells order place memory first k (suc i) cells h.0 (omega arith) hl fit h.1 in
    ap₂ (λ x xs. x ∷ xs) (ap memory small ∙ byte_stands order place (memory (first + i)) (get_or cells i None) b eb (fit i lt)) (ap (λ a. bytes_from memory a k) more ∙ rest) ∙ h.2)

bytes_in_list : (memory : ℕ → ℕ) (first : ℕ) (k i : ℕ) (xs : List ℕ) → i + k ≤ length xs → first + length xs ≤ addresses → ((j : ℕ) → j < length xs → memory (first + j) ≡ get_or xs j 0) → bytes_from memory (first + i) k ≡ take k (drop i xs)
bytes_in_list memory first zero i xs hk hl fit = refl
bytes_in_list memory first (suc k) i xs hk hl fit =
    let lt : i < length xs = omega arith in
    let small : (first + i) % addresses ≡ first + i = omega arith in
    let more : first + i + 1 ≡ first + suc i = omega arith in
    let rest : bytes_from memory (first + suc i) k ≡ take k (drop (suc i) xs) = bytes_in_list memory first k (suc i) xs (omega arith) hl fit in
    ap₂ (λ x xs. x ∷ xs) (ap memory small ∙ fit i lt) (ap (λ a. bytes_from memory a k) more ∙ rest) ∙ ap (take (suc k)) (sym (drop-cons xs i 0 lt))

-- the bytes that a load reads
pub bytes_fit : {order : Order} {place : Placement} {s : State} {f : FlatState} → Fits order place s f → IsPlacement (length s.context) place → IsState s → (k : ℕ) (pl : Location) (bs : List ℕ) → IsGood s k pl → bytes_at s k pl ≡ Some bs → bytes_from f.memory (place_address place pl) k ≡ bs
bytes_fit {order = order} {place = place} {s = s} {f = f} fit isp iss k (InContext i) bs good e =
    bytes_in_list f.memory place.context k i s.context good isp.context_inside fit.context_fits ∙ same_Some _ _ e
bytes_fit {order = order} {place = place} {s = s} {f = f} fit isp iss k (InFrame n i) bs good e =
    let len : length (stack_of s n) ≡ frame_bytes = (frame_is iss n).cells in
    let few = iss.few_frames in
    let live = good.0 in
    let n8 : n < max_frames = omega arith in
    bytes_in_cells order place f.memory (frame_start place n) k i (stack_of s n) bs (rw len good.1) (rw len (isp.frame_inside n n8)) (λ j hj. fit.cells_fit n j good.0 (rw len at hj)) e

pub number_fits : {order : Order} {place : Placement} {s : State} {f : FlatState} → Fits order place s f → IsPlacement (length s.context) place → IsState s → (k : ℕ) (pl : Location) (x : ℕ) → IsGood s k pl → number_at order s k pl ≡ Some x → flat_number order f k (place_address place pl) ≡ x
number_fits {order = order} {f = f} fit isp iss k pl x good e =
    let h = option_map_some (number_of order k) (bytes_at _ k pl) x e in
    ap (number_of order k) (bytes_fit fit isp iss k pl h.0 good h.1) ∙ h.2
