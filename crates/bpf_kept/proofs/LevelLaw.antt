-- The frames of calls that wait: where they begin at the far placements, and how far they are from the own one.
use Rattle.std.proofs.Common.{◌≡◌, ℕ, zero, suc, ◌+◌, ◌-◌, ◌*◌, ◌%◌, ◌^◌, ◌<◌, ◌≤◌, inl, inr, refl, sym, ap, ◌∙◌, subst, arith, Bool, true}
use Rattle.std.specs.Prelude.{ℤ, pos, negsuc, ◌+ℤ◌, ◌≤ℤ◌, FitsSigned}
use Rattle.std.specs.Int.{w16}
use Rattle.std.proofs.lemmas.Bool.{cases_eq}
use Rattle.std.proofs.lemmas.Int.{ints}
use Rattle.bpf_insn.specs.Effects.{is_frame_pointer}
use Rattle.bpf_insn.specs.Limits.{frame_bytes, max_frames}
use Rattle.bpf_insn.specs.declared.instruction.Reg.{Reg}
use Rattle.bpf_semantics.specs.Flat.{Placement, FlatState, addresses, address, frame_start}
use Rattle.bpf_kept.specs.Far.{near_gap, wide_gap, near, wide}
use Rattle.bpf_kept.specs.Terms.{IsWaiting}
use Rattle.bpf_kept.specs.Slots.{frame_byte}
use Rattle.bpf_kept.proofs.FarLaw.{far_frame}
use Rattle.bpf_kept.proofs.HoldsLaw.{IsHigh}
use Rattle.bpf_kept.proofs.FrameLaw.{IsRoomy, IsEnd, byte_address, near_byte}
use Rattle.bpf_kept.proofs.Setting.{starts_below}

-- ---- where frames begin

-- a far placement: frames begin at multiples of a gap, well inside of the lower half of the addresses
pub record IsLaid (place : Placement) (gap : ℕ) : Type 0 where
  pub starts : (n : ℕ) → n < max_frames → frame_start place n ≡ gap * (n + 1)
  pub parts : ℕ
  pub whole : gap ≡ 2 ^ 41 * parts
  pub some : 1 ≤ parts
  pub few : parts ≤ 2 ^ 9

pub near_laid : (padded : Bool) → IsLaid (near padded) near_gap
near_laid padded = record { starts = far_frame padded near_gap; parts = 1; whole = refl; some = omega arith; few = omega arith }

pub wide_laid : (padded : Bool) → IsLaid (wide padded) wide_gap
wide_laid padded = record { starts = far_frame padded wide_gap; parts = 2 ^ 9; whole = refl; some = omega arith; few = omega arith }

-- the start of frame n, as a multiple of 2 ^ 41
pub record Begins (place : Placement) (n : ℕ) : Type 0 where
  pub at : ℕ
  pub is : frame_start place n ≡ 2 ^ 41 * at
  pub low : 1 ≤ at
  pub high : at ≤ 2 ^ 12

begins : (place : Placement) (gap n : ℕ) → IsLaid place gap → n < max_frames → Begins place n
begins place gap n laid lt =
    let start = laid.starts n lt in
    let some = laid.some in
    let few = laid.few in
    record {
      at = laid.parts * (n + 1);
      is = start ∙ ap (λ g. g * (n + 1)) laid.whole ∙ spread laid.parts (n + 1);
      low = least laid.parts n some;
      high = most laid.parts n few lt;
    }
  where
    spread : (p k : ℕ) → 2 ^ 41 * p * k ≡ 2 ^ 41 * (p * k)
    spread p k = omega arith

    least : (p n : ℕ) → 1 ≤ p → 1 ≤ p * (n + 1)
    least zero n le = absurd (omega arith)
    least (suc p) n le = omega arith

    most : (p n : ℕ) → p ≤ 2 ^ 9 → n < 8 → p * (n + 1) ≤ 2 ^ 12
    most p zero le lt = omega arith
    most p (suc zero) le lt = omega arith
    most p (suc (suc zero)) le lt = omega arith
    most p (suc (suc (suc zero))) le lt = omega arith
    most p (suc (suc (suc (suc zero)))) le lt = omega arith
    most p (suc (suc (suc (suc (suc zero))))) le lt = omega arith
    most p (suc (suc (suc (suc (suc (suc zero)))))) le lt = omega arith
    most p (suc (suc (suc (suc (suc (suc (suc zero))))))) le lt = omega arith
    most p (suc (suc (suc (suc (suc (suc (suc (suc n)))))))) le lt = absurd (omega arith)

pub roomy_at : (place : Placement) (gap n : ℕ) → IsLaid place gap → n < max_frames → IsRoomy (frame_start place n)
roomy_at place gap n laid lt =
    let b = begins place gap n laid lt in
    let is = b.is in
    let low = b.low in
    let high = b.high in
    record { from = omega arith; to = omega arith }

pub high_at : (place : Placement) (gap n : ℕ) → IsLaid place gap → n < max_frames → IsHigh (frame_start place n)
high_at place gap n laid lt = let b = begins place gap n laid lt in record { part = 2 ^ 9 * b.at; is = b.is ∙ (omega arith) }

-- a later call's frame lies above
pub lies_above : (place : Placement) (gap m n : ℕ) → IsLaid place gap → m < n → n < max_frames → frame_start place m + 2 ^ 32 ≤ frame_start place n
lies_above place gap m n laid less lt =
    let em = laid.starts m (omega arith) in
    let en = laid.starts n lt in
    let whole = laid.whole in
    let some = laid.some in
    let d = apart m n gap less in
    let big : 2 ^ 41 ≤ gap = least laid.parts gap whole some in
    omega arith
  where
    apart : (m n g : ℕ) → m < n → g * (m + 1) + g ≤ g * (n + 1)
    apart m n g less = let k : (n + 1) ≡ (m + 1) + 1 + (n - (m + 1)) = omega arith in subst (λ z. g * (m + 1) + g ≤ g * z) (sym k) (more g (m + 1) (n - (m + 1)))
      where
        more : (g a b : ℕ) → g * a + g ≤ g * (a + 1 + b)
        more g a b = omega arith

    least : (p g : ℕ) → g ≡ 2 ^ 41 * p → 1 ≤ p → 2 ^ 41 ≤ g
    least p g e le = omega arith

-- ---- accesses by r10 stay near the own frame

pub pointer_near : (own j : ℕ) (f : FlatState) (r : Reg) (off : ℤ) → IsRoomy own → IsEnd own f.registers → is_frame_pointer r ≡ true → FitsSigned w16 off → j < 8 → (own ≤ (address f r off + j) % addresses + 2 ^ 21) × ((address f r off + j) % addresses ≤ own + 2 ^ 21)
pointer_near own j f r off room end pointer near few =
    let at = byte_address own f r off room end pointer near in
    let bounds = near_byte off near in
    (from own (address f r off) j (frame_byte off) room at bounds.0 bounds.1 few, to own (address f r off) j (frame_byte off) room at bounds.0 bounds.1 few)
  where
    from : (own a j : ℕ) (z : ℤ) → IsRoomy own → pos a ≡ pos own +ℤ z → negsuc (2 ^ 20) ≤ℤ z → z ≤ℤ pos (2 ^ 20) → j < 8 → own ≤ (a + j) % addresses + 2 ^ 21
    from own a j z room at low high few =
        let r0 = room.from in
        let r1 = room.to in
        let small : a + j < addresses = omega (arith, ints) in
        let same : (a + j) % addresses ≡ a + j = omega arith in
        let le : own ≤ a + 2 ^ 21 = omega (arith, ints) in
        omega arith

    to : (own a j : ℕ) (z : ℤ) → IsRoomy own → pos a ≡ pos own +ℤ z → negsuc (2 ^ 20) ≤ℤ z → z ≤ℤ pos (2 ^ 20) → j < 8 → (a + j) % addresses ≤ own + 2 ^ 21
    to own a j z room at low high few =
        let r0 = room.from in
        let r1 = room.to in
        let small : a + j < addresses = omega (arith, ints) in
        let same : (a + j) % addresses ≡ a + j = omega arith in
        let le : a + 8 ≤ own + 2 ^ 21 = omega (arith, ints) in
        omega arith

-- ---- frames that wait

pub waiting_there : (place : Placement) (left n deep a : ℕ) → n < deep → frame_start place n + left ≤ a → a < frame_start place n + frame_bytes → IsWaiting left (starts_below place deep) a
waiting_there place left n zero a lt low high = absurd (omega arith)
waiting_there place left n (suc deep) a lt low high = elim (cases_eq n deep) [
  | inl same ↦ inl (subst (λ m. frame_start place m + left ≤ a) same low, subst (λ m. a < frame_start place m + frame_bytes) same high)
  | inr differ ↦ inr (waiting_there place left n deep a (omega arith) low high)
]

-- they lie below the own one
pub waiting_below : (place : Placement) (gap left deep a : ℕ) → IsLaid place gap → deep < max_frames → IsWaiting left (starts_below place deep) a → a < frame_start place deep
waiting_below place gap left deep a laid lt w = by_start deep (omega arith) w
  where
    by_start : (n : ℕ) → n ≤ deep → IsWaiting left (starts_below place n) a → a < frame_start place deep
    by_start zero le w = absurd w
    by_start (suc n) le (inl here) = let high = here.1 in let above = lies_above place gap n deep laid le lt in omega arith
    by_start (suc n) le (inr later) = by_start n (omega arith) later
