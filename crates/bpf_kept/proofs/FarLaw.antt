-- The far placements: they are placements, and no two distances between regions are the same at both.
use Rattle.std.proofs.Common.{◌≡◌, ℕ, zero, suc, ◌+◌, ◌-◌, ◌*◌, ◌%◌, ◌^◌, ◌<◌, ◌≤◌, inl, inr, refl, subst, arith, Bool, true, false}
use Rattle.bpf_semantics.specs.State.{frame_bytes, max_frames}
use Rattle.bpf_semantics.specs.Flat.{IsAmong, addresses, frame_start}
use Rattle.bpf_semantics.specs.Placement.{IsPlacement, IsInMemory, IsInFrames}
use Rattle.bpf_kept.specs.Far.{far_placement, near_gap, wide_gap, near, wide}
use Rattle.bpf_kept.specs.Laws.{FarIsPlacement, OneAddressIsContext, OneDistanceIsFrame}

pub far_frame : (padded : Bool) (gap n : ℕ) → n < max_frames → frame_start (far_placement padded gap) n ≡ gap * (n + 1)
far_frame padded gap zero h = refl
far_frame padded gap (suc zero) h = refl
far_frame padded gap (suc (suc zero)) h = refl
far_frame padded gap (suc (suc (suc zero))) h = refl
far_frame padded gap (suc (suc (suc (suc zero)))) h = refl
far_frame padded gap (suc (suc (suc (suc (suc zero))))) h = refl
far_frame padded gap (suc (suc (suc (suc (suc (suc zero)))))) h = refl
far_frame padded gap (suc (suc (suc (suc (suc (suc (suc zero))))))) h = refl
far_frame padded gap (suc (suc (suc (suc (suc (suc (suc (suc n)))))))) h = absurd (omega arith)

near_frame : (padded : Bool) (n : ℕ) → n < max_frames → frame_start (near padded) n ≡ 2 ^ 41 * (n + 1)
near_frame padded n h = far_frame padded near_gap n h

wide_frame : (padded : Bool) (n : ℕ) → n < max_frames → frame_start (wide padded) n ≡ 2 ^ 50 * (n + 1)
wide_frame padded n h = far_frame padded wide_gap n h

-- where a context begins, which is one address at both
pub begins_at : (padded : Bool) (gap : ℕ) → (2 ^ 63 ≤ (far_placement padded gap).context) × ((far_placement padded gap).context ≤ 2 ^ 63 + 8)
begins_at true gap = (omega arith, omega arith)
begins_at false gap = (omega arith, omega arith)

near_placement : (padded : Bool) (len : ℕ) → len < 2 ^ 62 → IsPlacement len (near padded)
near_placement padded len short =
    let b = begins_at padded near_gap in
    let low = b.0 in
    let high = b.1 in
    record {
      eight = refl;
      context_inside = omega arith;
      frame_inside = λ n h. let e = near_frame padded n h in omega arith;
      context_apart = λ n h a p q. let e = near_frame padded n h in let p0 = p.0 in let q1 = q.1 in omega arith;
      frames_apart = λ m n less h a p q. let e = near_frame padded n h in let d = near_frame padded m (omega arith) in let p1 = p.1 in let q0 = q.0 in omega arith;
    }

wide_placement : (padded : Bool) (len : ℕ) → len < 2 ^ 62 → IsPlacement len (wide padded)
wide_placement padded len short =
    let b = begins_at padded wide_gap in
    let low = b.0 in
    let high = b.1 in
    record {
      eight = refl;
      context_inside = omega arith;
      frame_inside = λ n h. let e = wide_frame padded n h in omega arith;
      context_apart = λ n h a p q. let e = wide_frame padded n h in let p0 = p.0 in let q1 = q.1 in omega arith;
      frames_apart = λ m n less h a p q. let e = wide_frame padded n h in let d = wide_frame padded m (omega arith) in let p1 = p.1 in let q0 = q.0 in omega arith;
    }

pub far_is_placement : FarIsPlacement
far_is_placement padded len short = (near_placement padded len short, wide_placement padded len short)

-- ---- one address, one distance

pub one_address_is_context : OneAddressIsContext
one_address_is_context padded len live a few (inl there) at_wide = there
one_address_is_context padded len live a few (inr framed) (inl there) = there
one_address_is_context padded len live a few (inr framed) (inr other) =
    let h = framed.1 in
    let k = other.1 in
    let e = near_frame padded framed.0 (omega arith) in
    let d = wide_frame padded other.0 (omega arith) in
    let p = framed.2.1 in
    let q = other.2.0 in
    absurd (omega arith)

-- a distance from a frame to the context is another one where frames lie otherwise
by_distance : (n m k x i j : ℕ) → n < 8 → m < 8 → k < 8 → i < 512 → j < 512 → x < 2 ^ 64
    → (2 ^ 41 * (n + 1) + x) % 2 ^ 64 ≡ 2 ^ 41 * (m + 1) + i → (2 ^ 50 * (n + 1) + x) % 2 ^ 64 ≡ 2 ^ 50 * (k + 1) + j → x < 512
by_distance n m k x i j hn hm hk hi hj hx e d = omega arith

to_context : (n k x i j len : ℕ) → n < 8 → k < 8 → len < 2 ^ 62 → i < len + 8 → j < 512 → x < 2 ^ 64
    → (2 ^ 41 * (n + 1) + x) % 2 ^ 64 ≡ 2 ^ 63 + i → (2 ^ 50 * (n + 1) + x) % 2 ^ 64 ≡ 2 ^ 50 * (k + 1) + j → ⊥
to_context n k x i j len hn hk hl hi hj hx e d = omega arith

from_context : (n m x i j len : ℕ) → n < 8 → m < 8 → len < 2 ^ 62 → i < 512 → j < len + 8 → x < 2 ^ 64
    → (2 ^ 41 * (n + 1) + x) % 2 ^ 64 ≡ 2 ^ 41 * (m + 1) + i → (2 ^ 50 * (n + 1) + x) % 2 ^ 64 ≡ 2 ^ 63 + j → ⊥
from_context n m x i j len hn hm hl hi hj hx e d = omega arith

-- a context's address, so far from its begin
in_context : (padded : Bool) (gap len a : ℕ) → IsAmong (far_placement padded gap).context len a → (i : ℕ) × (i < len + 8) × (a ≡ 2 ^ 63 + i)
in_context padded gap len a p =
    let b = begins_at padded gap in
    let low = b.0 in
    let high = b.1 in
    let p0 = p.0 in
    let p1 = p.1 in
    (a - 2 ^ 63, omega arith, omega arith)

-- a frame's address, so far from its begin
in_near : (padded : Bool) (live a : ℕ) → live < max_frames → IsInFrames (near padded) live a → (m : ℕ) × (i : ℕ) × (m < 8) × (i < 512) × (a ≡ 2 ^ 41 * (m + 1) + i)
in_near padded live a few h =
    let le = h.1 in
    let e = near_frame padded h.0 (omega arith) in
    let p0 = h.2.0 in
    let p1 = h.2.1 in
    (h.0, a - 2 ^ 41 * (h.0 + 1), omega arith, omega arith, omega arith)

in_wide : (padded : Bool) (live a : ℕ) → live < max_frames → IsInFrames (wide padded) live a → (m : ℕ) × (i : ℕ) × (m < 8) × (i < 512) × (a ≡ 2 ^ 50 * (m + 1) + i)
in_wide padded live a few h =
    let le = h.1 in
    let e = wide_frame padded h.0 (omega arith) in
    let p0 = h.2.0 in
    let p1 = h.2.1 in
    (h.0, a - 2 ^ 50 * (h.0 + 1), omega arith, omega arith, omega arith)

-- the context lies at one distance from frame n near, and at another one wide
both_contexts : (n x i j len : ℕ) → n < 8 → len < 2 ^ 62 → i < len + 8 → j < len + 8 → x < 2 ^ 64 → (2 ^ 41 * (n + 1) + x) % 2 ^ 64 ≡ 2 ^ 63 + i → (2 ^ 50 * (n + 1) + x) % 2 ^ 64 ≡ 2 ^ 63 + j → i + 2 ^ 50 * (n + 1) ≡ j + 2 ^ 41 * (n + 1)
both_contexts n x i j len hn hl hi hj hx e d = omega arith

pub one_distance_is_frame : OneDistanceIsFrame
one_distance_is_frame padded len live n x few own below short at_near at_wide = by_near at_near at_wide
  where
    e : frame_start (near padded) n ≡ 2 ^ 41 * (n + 1)
    e = near_frame padded n own

    d : frame_start (wide padded) n ≡ 2 ^ 50 * (n + 1)
    d = wide_frame padded n own

    a : ℕ
    a = (frame_start (near padded) n + x) % addresses

    b : ℕ
    b = (frame_start (wide padded) n + x) % addresses

    a_is : (y : ℕ) → a ≡ y → (2 ^ 41 * (n + 1) + x) % 2 ^ 64 ≡ y
    a_is y h = subst (λ z. (z + x) % addresses ≡ y) e h

    b_is : (y : ℕ) → b ≡ y → (2 ^ 50 * (n + 1) + x) % 2 ^ 64 ≡ y
    b_is y h = subst (λ z. (z + x) % addresses ≡ y) d h

    by_near : IsInMemory (near padded) len live a → IsInMemory (wide padded) len live b → x < frame_bytes
    by_near (inl p) (inl q) =
        let i = in_context padded near_gap len a p in
        let j = in_context padded wide_gap len b q in
        let ha = a_is (2 ^ 63 + i.0) i.2 in
        let hb = b_is (2 ^ 63 + j.0) j.2 in
        let hi = i.1 in
        let hj = j.1 in
        let s = both_contexts n x i.0 j.0 len own (omega arith) i.1 j.1 below ha hb in
        absurd (omega arith)
    by_near (inl p) (inr q) =
        let i = in_context padded near_gap len a p in
        let j = in_wide padded live b few q in
        absurd (to_context n j.0 x i.0 j.1 len own j.2 (omega arith) i.1 j.3 below (a_is (2 ^ 63 + i.0) i.2) (b_is (2 ^ 50 * (j.0 + 1) + j.1) j.4))
    by_near (inr p) (inl q) =
        let i = in_near padded live a few p in
        let j = in_context padded wide_gap len b q in
        absurd (from_context n i.0 x i.1 j.0 len own i.2 (omega arith) i.3 j.1 below (a_is (2 ^ 41 * (i.0 + 1) + i.1) i.4) (b_is (2 ^ 63 + j.0) j.2))
    by_near (inr p) (inr q) =
        let i = in_near padded live a few p in
        let j = in_wide padded live b few q in
        by_distance n i.0 j.0 x i.1 j.1 own i.2 j.2 i.3 j.3 below (a_is (2 ^ 41 * (i.0 + 1) + i.1) i.4) (b_is (2 ^ 50 * (j.0 + 1) + j.1) j.4)
