-- Guards pass: where the old program's accesses follow, what is tested is within the guard's limit.
use Rattle.std.proofs.Common.{◌≡◌, ℕ, suc, ◌==◌, ◌/◌, ◌*◌, ◌+◌, ◌-◌, ◌%◌, ◌^◌, ◌<◌, ◌≤◌, inl, inr, refl, sym, ap, ◌∙◌, subst, arith, Bool, true, false, List, [], ◌∷◌, Option, Some, None}
use Rattle.std.specs.Prelude.{ℤ, pos, negsuc, ◌+ℤ◌, ◌-ℤ◌, ◌≤ℤ◌, ◌<ℤ◌, int_le, FitsSigned, if◌then◌else◌}
use Rattle.std.specs.Int.{w16, w64, cast_signed}
use Rattle.std.specs.Option.{option_map_or}
use Rattle.std.specs.List.{AllByRecursion, list_any}
use Rattle.std.proofs.lemmas.Bool.{and_parts, or_cases, cases_lt, le-ltb, eqb-true, false≢true}
use Rattle.std.proofs.lemmas.Int.{ints}
use Rattle.bpf_insn.specs.Arithmetic.{modulo}
use Rattle.bpf_insn.specs.Effects.{Access, is_frame_pointer}
use Rattle.bpf_insn.specs.Limits.{frame_bytes, max_frames}
use Rattle.bpf_insn.specs.Instruction.{Instructions, register_number, byte_count}
use Rattle.bpf_insn.specs.declared.order.Order.{Order}
use Rattle.bpf_insn.specs.declared.instruction.Reg.{Reg}
use Rattle.bpf_insn.specs.declared.instruction.Size.{Size}
use Rattle.bpf_insn.specs.declared.instruction.Size.TheVariants.{B, H, W, DW}
use Rattle.bpf_semantics.specs.Flat.{FlatState, IsFlat, IsAmong, addresses, frame_start, flat_register}
use Rattle.bpf_semantics.specs.Placement.{IsInMemory}
use Rattle.bpf_semantics.proofs.FlatArith.{Same, modulo_same, same_refl, same_sym, same_trans, same_plus, same_minus, same_equal, modulo-same, modulo_of_small}
use Rattle.bpf_semantics.proofs.NumberLemmas.{modulo_below}
use Rattle.bpf_kept.specs.Far.{near_gap, near, wide, middle, bytes_before}
use Rattle.bpf_kept.specs.Meaning.{Bounds}
use Rattle.bpf_kept.specs.declared.reach.GuardReach.{GuardReach}
use Rattle.bpf_kept.specs.declared.reach.GuardLimit.{GuardLimit}
use Rattle.bpf_kept.specs.declared.reach.GuardLimit.TheVariants.{Most, MostOfSmall, Least}
use Rattle.bpf_kept.specs.declared.notes.Holder.{Holder}
use Rattle.bpf_kept.specs.declared.notes.Holder.TheVariants.{Register, Slot, Length}
use Rattle.bpf_kept.specs.declared.notes.Term.{Term}
use Rattle.bpf_kept.specs.declared.notes.Fact.{Fact}
use Rattle.bpf_kept.specs.declared.notes.Need.TheVariants.{Below, Above}
use Rattle.bpf_kept.specs.Terms.{Packet, Differs, DiffersBy, value_in, shift}
use Rattle.bpf_kept.specs.Guards.{Front, first_in_frame, in_context, in_frame, is_met, is_ahead, is_within, is_tested_by, is_tested_in, is_tested, accesses_ahead, farthest_ahead}
use Rattle.bpf_kept.proofs.FarLaw.{one_address_is_context, one_distance_is_frame}
use Rattle.bpf_kept.proofs.TermLaw.{differs_same}
use Rattle.bpf_kept.proofs.HoldsLaw.{plain_shift}
use Rattle.bpf_kept.proofs.TestLaw.{cancelled}
use Rattle.bpf_kept.proofs.AheadLaw.{Inside}
use Rattle.bpf_kept.proofs.FrameLaw.{IsRoomy}
use Rattle.bpf_kept.proofs.LevelLaw.{near_laid, roomy_at}

-- ---- numbers

size_small : (size : Size) → (1 ≤ byte_count size) × (byte_count size ≤ 8)
size_small B = (omega arith, omega arith)
size_small H = (omega arith, omega arith)
size_small W = (omega arith, omega arith)
size_small DW = (omega arith, omega arith)

-- two places in a region are as far apart as the offsets by which they are made
apart : (a b len : ℕ) (d : ℤ) → a < len → b < len → len < 2 ^ 32 → negsuc (2 ^ 20) ≤ℤ d → d ≤ℤ pos (2 ^ 20) → Same (pos b) (pos a +ℤ d) → pos b ≡ pos a +ℤ d
apart a b len d ha hb short low high s = let e = s.same in omega (arith, ints)

-- a number is what it is made of, if that isn't below 0 nor too great
whole : (x : ℕ) (z : ℤ) → x < 2 ^ 64 → pos 0 ≤ℤ z → z <ℤ pos (2 ^ 64) → Same (pos x) z → pos x ≡ z
whole x z small low high s = let e = s.same in omega (arith, ints)

pub le_of : (a b : ℤ) → int_le a b ≡ true → a ≤ℤ b
le_of a b e = omega (arith, ints)

-- the last byte of an access
last_same : (z : ℤ) (n : ℕ) → Same (pos ((modulo z addresses + n) % addresses)) (z +ℤ pos n)
last_same z n = same_trans (modulo-same (pos (modulo z addresses + n))) (same_plus (modulo-same z) (same_refl (pos n)))

-- an access lies in a region, from a first byte up to an end, where the new program has x, which is the offset, moved
pub record Lies (x first end : ℕ) (moved : ℤ) (a : Access) : Type 0 where
  pub near : FitsSigned w16 a.offset
  pub there : (b : ℕ) → b < byte_count a.size → (u : ℕ) × (first ≤ u) × (u < end) × Same (pos u) (((pos x -ℤ moved) +ℤ a.offset) +ℤ pos b)

-- what is tested, by the byte where an access begins that begins so low
pub record Begins (x end least : ℕ) (moved : ℤ) (a : Access) : Type 0 where
  pub byte : ℕ
  pub inside : byte < end
  pub byte_is : Same (pos byte) (((pos x -ℤ moved) +ℤ a.offset) +ℤ pos 0)
  pub is : pos x ≡ pos byte +ℤ (moved -ℤ a.offset)
  pub no_less : least ≤ x

pub begins : (x first end least : ℕ) (moved : ℤ) (a : Access) → x < 2 ^ 64 → end < 2 ^ 32 → moved ≤ℤ pos (2 ^ 63) → Lies x first end moved a
    → a.offset ≤ℤ ((pos first +ℤ moved) -ℤ pos least) → Begins x end least moved a
begins x first end least moved a hx short top lies low =
    let sa = size_small a.size in
    let sa0 = sa.0 in
    let h = lies.there 0 (omega arith) in
    let u : ℕ = h.0 in
    let here : Same (pos x) (pos u +ℤ (moved -ℤ a.offset)) = same_trans (same_equal (back (pos x) moved a.offset)) (same_plus (same_sym h.3) (same_refl (moved -ℤ a.offset))) in
    let is : pos x ≡ pos u +ℤ (moved -ℤ a.offset) = whole x (pos u +ℤ (moved -ℤ a.offset)) hx (not_below u first least moved a.offset h.1 low) (not_above u end moved a.offset h.2 short top lies.near) here in
    record { byte = u; inside = h.2; byte_is = h.3; is = is; no_less = at_least x u first least moved a.offset is h.1 low }
  where
    back : (x m a : ℤ) → x ≡ (((x -ℤ m) +ℤ a) +ℤ pos 0) +ℤ (m -ℤ a)
    back x m a = omega (arith, ints)

    not_below : (u first least : ℕ) (m a : ℤ) → first ≤ u → a ≤ℤ ((pos first +ℤ m) -ℤ pos least) → pos 0 ≤ℤ (pos u +ℤ (m -ℤ a))
    not_below u first least m a f k = omega (arith, ints)

    not_above : (u end : ℕ) (m a : ℤ) → u < end → end < 2 ^ 32 → m ≤ℤ pos (2 ^ 63) → FitsSigned w16 a → (pos u +ℤ (m -ℤ a)) <ℤ pos (2 ^ 64)
    not_above u end m a lt short top near = omega (arith, ints)

    at_least : (x u first least : ℕ) (m a : ℤ) → pos x ≡ pos u +ℤ (m -ℤ a) → first ≤ u → a ≤ℤ ((pos first +ℤ m) -ℤ pos least) → least ≤ x
    at_least x u first least m a e f k = omega (arith, ints)

-- and another one ends so far on
pub at_most : (x first end most : ℕ) (moved : ℤ) (a b : Access) → end < 2 ^ 32 → Begins x end 0 moved a → FitsSigned w16 a.offset → Lies x first end moved b
    → ((pos end +ℤ moved) -ℤ pos most) ≤ℤ (b.offset +ℤ pos (byte_count b.size)) → x ≤ most
at_most x first end most moved a b short low near last high =
    let sb = size_small b.size in
    let sb0 = sb.0 in
    let sb1 = sb.1 in
    let n : ℕ = byte_count b.size - 1 in
    let h = last.there n (omega arith) in
    let u : ℕ = low.byte in
    let w : ℕ = h.0 in
    let far : Same (pos w) (pos u +ℤ ((b.offset -ℤ a.offset) +ℤ pos n)) = same_trans h.3 (same_trans (same_equal (regroup (pos x -ℤ moved) a.offset b.offset (pos n))) (same_plus (same_sym low.byte_is) (same_refl ((b.offset -ℤ a.offset) +ℤ pos n)))) in
    let is : pos w ≡ pos u +ℤ ((b.offset -ℤ a.offset) +ℤ pos n) = apart u w end ((b.offset -ℤ a.offset) +ℤ pos n) low.inside h.2 short (near_low a.offset b.offset n near last.near (omega arith)) (near_high a.offset b.offset n near last.near (omega arith)) far in
    let size : byte_count b.size ≡ n + 1 = omega arith in
    not_above x u w end most n (byte_count b.size) a.offset b.offset moved low.is is h.2 size high
  where
    regroup : (y a b n : ℤ) → (y +ℤ b) +ℤ n ≡ ((y +ℤ a) +ℤ pos 0) +ℤ ((b -ℤ a) +ℤ n)
    regroup y a b n = omega (arith, ints)

    near_low : (a b : ℤ) (n : ℕ) → FitsSigned w16 a → FitsSigned w16 b → n ≤ 7 → negsuc (2 ^ 20) ≤ℤ ((b -ℤ a) +ℤ pos n)
    near_low a b n fa fb le = omega (arith, ints)

    near_high : (a b : ℤ) (n : ℕ) → FitsSigned w16 a → FitsSigned w16 b → n ≤ 7 → ((b -ℤ a) +ℤ pos n) ≤ℤ pos (2 ^ 20)
    near_high a b n fa fb le = omega (arith, ints)

    not_above : (x u w end most n size : ℕ) (a b m : ℤ) → pos x ≡ pos u +ℤ (m -ℤ a) → pos w ≡ pos u +ℤ ((b -ℤ a) +ℤ pos n) → w < end → size ≡ n + 1
        → ((pos end +ℤ m) -ℤ pos most) ≤ℤ (b +ℤ pos size) → x ≤ most
    not_above x u w end most n size a b m i e h s k = omega (arith, ints)

-- a number that is far from all that are below 0 isn't one of them
small_passes : (x w end most n : ℕ) (o m : ℤ) → x < 2 ^ 62 → end < 2 ^ 32 → w < end → n ≤ 7 → FitsSigned w16 o → negsuc (2 ^ 63) ≤ℤ m → m ≤ℤ pos (2 ^ 63)
    → Same (pos w) (((pos x -ℤ m) +ℤ o) +ℤ pos n) → ((pos end +ℤ m) -ℤ pos most) ≤ℤ (o +ℤ (pos n +ℤ pos 1)) → x ≤ most
small_passes x w end most n o m little short inside few near bottom top s high = let e = s.same in omega (arith, ints)

pub at_most_small : (x first end most : ℕ) (moved : ℤ) (b : Access) → x < 2 ^ 62 → end < 2 ^ 32 → negsuc (2 ^ 63) ≤ℤ moved → moved ≤ℤ pos (2 ^ 63)
    → Lies x first end moved b → ((pos end +ℤ moved) -ℤ pos most) ≤ℤ (b.offset +ℤ pos (byte_count b.size)) → x ≤ most
at_most_small x first end most moved b little short bottom top last high =
    let sb = size_small b.size in
    let sb0 = sb.0 in
    let sb1 = sb.1 in
    let n : ℕ = byte_count b.size - 1 in
    let h = last.there n (omega arith) in
    let size : pos (byte_count b.size) ≡ pos n +ℤ pos 1 = omega (arith, ints) in
    small_passes x h.0 end most n b.offset moved little short h.2 (omega arith) last.near bottom top h.3
    (subst (λ z. ((pos end +ℤ moved) -ℤ pos most) ≤ℤ (b.offset +ℤ z)) size high)

-- ---- one access for both placements

pub any_of : {A : Type 0} (test : A → Bool) (P Q : A → Type 0) (xs : List A) → list_any test xs ≡ true → AllByRecursion P xs → AllByRecursion Q xs → (x : A) × (test x ≡ true) × P x × Q x
any_of test P Q [] e h k = absurd (false≢true e)
any_of test P Q (x ∷ xs) e h k = elim (or_cases (test x) (list_any test xs) e) [
  | inl here ↦ (x, here, h.0, k.0)
  | inr later ↦ any_of test P Q xs later h.1 k.1
]

-- ---- where the old program's access goes, as a distance

-- the old program's register, by what the new one has
old_same : (x y : ℕ) (z : ℤ) → Same (pos x) (pos y +ℤ z) → Same (pos y) (pos x -ℤ z)
old_same x y z s =
    let back : (pos y +ℤ z) -ℤ z ≡ pos y = omega (arith, ints) in
    same_sym (same_trans (same_minus s (same_refl z)) (same_equal back))

-- in what is given, which begins a few bytes behind the middle of the addresses
context_distance : (x y first count b : ℕ) (moved off : ℤ) → Same (pos x) (pos y +ℤ (pos (2 ^ 63) +ℤ moved))
    → IsAmong (2 ^ 63 + first) count ((modulo (pos y +ℤ off) addresses + b) % addresses)
    → (u : ℕ) × (first ≤ u) × (u < first + count) × Same (pos u) (((pos x -ℤ moved) +ℤ off) +ℤ pos b)
context_distance x y first count b moved off s among =
    let a : ℕ = (modulo (pos y +ℤ off) addresses + b) % addresses in
    let low = among.0 in
    let high = among.1 in
    let sa : Same (pos a) ((pos y +ℤ off) +ℤ pos b) = last_same (pos y +ℤ off) b in
    let so = old_same x y (pos (2 ^ 63) +ℤ moved) s in
    let d : pos (a - 2 ^ 63) ≡ pos a -ℤ pos (2 ^ 63) = omega (arith, ints) in (
      a - 2 ^ 63,
      omega arith,
      omega arith,
      same_trans (same_equal d) (same_trans (same_minus (same_trans sa (same_plus (same_plus so (same_refl off)) (same_refl (pos b)))) (same_refl (pos (2 ^ 63)))) (turn_back (pos x) moved off (pos b))),
    )
  where
    turn_back : (x m o b : ℤ) → Same ((((x -ℤ (pos (2 ^ 63) +ℤ m)) +ℤ o) +ℤ b) -ℤ pos (2 ^ 63)) (((x -ℤ m) +ℤ o) +ℤ b)
    turn_back x m o b = record { p = 1; q = 0; same = omega (arith, ints) }

-- at a distance from where the frame begins
frame_address : (x y start b : ℕ) (moved off : ℤ) → Same (pos x) (pos y +ℤ (moved -ℤ pos start)) → (modulo (pos y +ℤ off) addresses + b) % addresses ≡ (start + modulo (((pos x -ℤ moved) +ℤ off) +ℤ pos b) addresses) % addresses
frame_address x y start b moved off s =
    let w : ℤ = ((pos x -ℤ moved) +ℤ off) +ℤ pos b in
    let left : Same (pos ((modulo (pos y +ℤ off) addresses + b) % addresses)) ((pos y +ℤ off) +ℤ pos b) = last_same (pos y +ℤ off) b in
    let so = old_same x y (moved -ℤ pos start) s in
    let right : Same (pos ((start + modulo w addresses) % addresses)) (pos start +ℤ w) = same_trans (modulo-same (pos (start + modulo w addresses))) (same_plus (same_refl (pos start)) (modulo-same w)) in
    let again : (((pos x -ℤ (moved -ℤ pos start)) +ℤ off) +ℤ pos b) ≡ pos start +ℤ w = regroup (pos x) moved (pos start) off (pos b) in
    let both : Same (pos ((modulo (pos y +ℤ off) addresses + b) % addresses)) (pos ((start + modulo w addresses) % addresses)) = same_trans left (same_trans (same_plus (same_plus so (same_refl off)) (same_refl (pos b))) (same_trans (same_equal again) (same_sym right))) in
    sym (modulo_of_small ((modulo (pos y +ℤ off) addresses + b) % addresses) (omega arith)) ∙ modulo_same both ∙ modulo_of_small ((start + modulo w addresses) % addresses) (omega arith)
  where
    regroup : (x m s o b : ℤ) → (((x -ℤ (m -ℤ s)) +ℤ o) +ℤ b) ≡ s +ℤ (((x -ℤ m) +ℤ o) +ℤ b)
    regroup x m s o b = omega (arith, ints)

frame_shift : (start : ℕ) (t : Term) → (t.frames == 1) ≡ true → shift start t ≡ pos t.moved -ℤ pos start
frame_shift start t e =
    let product : t.frames * start ≡ start = ap (λ n. n * start) (eqb-true t.frames 1 e) ∙ (omega arith) in
    omega (arith, ints)

-- a constant, with its sign
signed_same : (n : ℕ) → Same (pos n) (cast_signed w64 (n % addresses))
signed_same n = elim (cases_lt (n % addresses) (2 ^ 63)) [
  | inl lower ↦ record { p = 0; q = n / addresses; same = omega (arith, ints) }
  | inr upper ↦ (let c : cast_signed w64 (n % addresses) ≡ negsuc (2 ^ 64 - suc (n % addresses)) = rw (le-ltb (n % addresses) (2 ^ 63) upper) refl in
      let small : n % addresses < 2 ^ 64 = omega arith in
      record { p = 0; q = n / addresses + 1; same = rw c (omega (arith, ints)) })
]

pub context_same : (n : ℕ) → Same (pos n) (pos (2 ^ 63) +ℤ cast_signed w64 ((n + middle) % addresses))
context_same n =
    let s : Same (pos (n + middle)) (cast_signed w64 ((n + middle) % addresses)) = signed_same (n + middle) in
    let back : Same (pos n) (pos (n + middle) +ℤ pos (2 ^ 63)) = record { p = 1; q = 0; same = omega (arith, ints) } in
    let turned : cast_signed w64 ((n + middle) % addresses) +ℤ pos (2 ^ 63) ≡ pos (2 ^ 63) +ℤ cast_signed w64 ((n + middle) % addresses) = swap (cast_signed w64 ((n + middle) % addresses)) in
    same_trans back (same_trans (same_plus s (same_refl (pos (2 ^ 63)))) (same_equal turned))
  where
    swap : (z : ℤ) → z +ℤ pos (2 ^ 63) ≡ pos (2 ^ 63) +ℤ z
    swap z = omega (arith, ints)

-- no constant is greater than this
pub signed_top : (n : ℕ) → cast_signed w64 (n % addresses) ≤ℤ pos (2 ^ 63)
signed_top n = elim (cases_lt (n % addresses) (2 ^ 63)) [
  | inl lower ↦ omega (arith, ints)
  | inr upper ↦ (let c : cast_signed w64 (n % addresses) ≡ negsuc (2 ^ 64 - suc (n % addresses)) = rw (le-ltb (n % addresses) (2 ^ 63) upper) refl in rw c (omega (arith, ints)))
]

-- nor less than this
pub signed_bottom : (n : ℕ) → negsuc (2 ^ 63) ≤ℤ cast_signed w64 (n % addresses)
signed_bottom n = elim (cases_lt (n % addresses) (2 ^ 63)) [
  | inl lower ↦ omega (arith, ints)
  | inr upper ↦ (let c : cast_signed w64 (n % addresses) ≡ negsuc (2 ^ 64 - suc (n % addresses)) = rw (le-ltb (n % addresses) (2 ^ 63) upper) refl in
      let small : n % addresses < 2 ^ 64 = omega arith in
      rw c (omega (arith, ints)))
]

-- ---- in which region it lies

-- by a pointer into the context, or the packet: it is one address at both placements, and so is where it goes
pub in_packet : (deep : ℕ) (shallow : deep < max_frames) (padded : Bool) (count untouched x y other : ℕ) (moved : ℤ) (r : Reg) (a : Access) → other ≡ y
    → Same (pos x) (pos y +ℤ (pos (2 ^ 63) +ℤ moved))
    → Inside (near padded) count untouched deep r y a → Inside (wide padded) count untouched deep r other a
    → Lies x (bytes_before padded) (bytes_before padded + count) moved a
in_packet deep shallow padded count untouched x y other moved r a same s h k =
    record {
      near = h.near;
      there = λ b lt. context_distance x y (bytes_before padded) count b moved a.offset s
          (one_address_is_context padded count deep ((modulo (pos y +ℤ a.offset) addresses + b) % addresses) shallow (h.there b lt)
          (subst (λ y. IsInMemory (wide padded) count deep ((modulo (pos y +ℤ a.offset) addresses + b) % addresses)) same (k.there b lt)));
    }

-- and no context is longer
wider : (x first end long : ℕ) (moved : ℤ) (a : Access) → end ≤ long → Lies x first end moved a → Lies x first long moved a
wider x first end long moved a le lies = record { near = lies.near; there = λ b lt. let h = lies.there b lt in let few = h.2 in (h.0, h.1, omega arith, h.3) }

-- by a pointer into the frame it is at one distance from where that begins, above the lowest bytes
above_lowest : (start untouched u a : ℕ) (ten : Bool) → IsRoomy start → u < 512 → a ≡ (start + u) % addresses → (ten ≡ false → IsAmong start untouched a → ⊥)
    → (if ten then 0 else untouched) ≤ u
above_lowest start untouched u a true room small e leaves = let least : 0 ≤ u = omega arith in least
above_lowest start untouched u a false room small e leaves = elim (cases_lt u untouched) [
  | inl less ↦ (let high = room.to in absurd (leaves refl (omega arith, omega arith)))
  | inr more ↦ more
]

-- ---- the guard's rule

-- what passes
abbrev pub IsWithin : GuardLimit → ℕ → Type 0
IsWithin (Most n) x = x ≤ n
IsWithin (MostOfSmall n) x = x < 2 ^ 62 → x ≤ n
IsWithin (Least n) x = n ≤ x

module _ (deep : ℕ) (shallow : deep < max_frames) (bounds : Bounds) (packet : Packet) (old : Instructions) (slot x : ℕ) (fn fw : FlatState) (short : bounds.length < 2 ^ 32) (few : bytes_before bounds.padded + packet.length ≤ bounds.length) (small : x < addresses) (flat : IsFlat fn) (flat' : IsFlat fw)
    (inside : (r : Reg) → AllByRecursion (Inside (near bounds.padded) packet.length bounds.untouched deep r (flat_register fn r)) (accesses_ahead old r farthest_ahead slot))
    (inside' : (r : Reg) → AllByRecursion (Inside (wide bounds.padded) packet.length bounds.untouched deep r (flat_register fw r)) (accesses_ahead old r farthest_ahead slot)) where
  abbrev pub front : Front
  front = record { old = old; slot = slot; bounds = bounds }

  abbrev start : ℕ
  start = frame_start (near false) deep

  abbrev other : ℕ
  other = frame_start (wide false) deep

  -- an access by a register stays inside at both placements
  abbrev InsideNear : Reg → Access → Type 0
  InsideNear r a = Inside (near bounds.padded) packet.length bounds.untouched deep r (flat_register fn r) a

  abbrev InsideWide : Reg → Access → Type 0
  InsideWide r a = Inside (wide bounds.padded) packet.length bounds.untouched deep r (flat_register fw r) a

  -- so accesses by it go to a region
  abbrev GoesTo : Reg → GuardReach → Type 0
  GoesTo r reach = (a : Access) → InsideNear r a → InsideWide r a → Lies x reach.first reach.end reach.moved a

  frame_lies : (moved : ℤ) (r : Reg) (a : Access) → Same (pos x) (pos (flat_register fn r) +ℤ (moved -ℤ pos start))
      → Same (pos x) (pos (flat_register fw r) +ℤ (moved -ℤ pos other)) → InsideNear r a → InsideWide r a → Lies x (first_in_frame bounds r) frame_bytes moved a
  frame_lies moved r a s s' h k =
      record {
        near = h.near;
        there = λ b lt. let w : ℤ = ((pos x -ℤ moved) +ℤ a.offset) +ℤ pos b in
            let at_near = frame_address x (flat_register fn r) start b moved a.offset s in
            let p = subst (IsInMemory (near bounds.padded) packet.length deep) at_near (h.there b lt) in
            let q = subst (IsInMemory (wide bounds.padded) packet.length deep) (frame_address x (flat_register fw r) other b moved a.offset s') (k.there b lt) in
            let u : modulo w addresses < frame_bytes = one_distance_is_frame bounds.padded packet.length deep deep (modulo w addresses) shallow shallow (modulo_below w) (omega arith) p q in
            (modulo w addresses, above_lowest start bounds.untouched (modulo w addresses) ((modulo (pos (flat_register fn r) +ℤ a.offset) addresses + b) % addresses) (is_frame_pointer r) (roomy_at (near false) near_gap deep (near_laid false) shallow) u at_near (λ ten. h.above ten b lt), u, modulo-same w);
      }

  -- what is tested by a pointer is within the limit
  within : (r : Reg) (reach : GuardReach) (limit : GuardLimit) → reach.end < 2 ^ 32 → negsuc (2 ^ 63) ≤ℤ reach.moved → reach.moved ≤ℤ pos (2 ^ 63) → GoesTo r reach
      → is_within front limit r reach ≡ true → IsWithin limit x
  unfolding is_ahead
  within r reach (Least n) near bottom top lies e =
      let accesses = accesses_ahead old r farthest_ahead slot in
      let low : ℤ = (pos reach.first +ℤ reach.moved) -ℤ pos n in
      let a = any_of (is_met (Below low)) (InsideNear r) (InsideWide r) accesses e (inside r) (inside' r) in
      (begins x reach.first reach.end n reach.moved a.0 small near top (lies a.0 a.2 a.3) (le_of a.0.offset low a.1)).no_less
  within r reach (MostOfSmall n) near bottom top lies e =
      let high : ℤ = (pos reach.end +ℤ reach.moved) -ℤ pos n in
      let b = any_of (is_met (Above high)) (InsideNear r) (InsideWide r) (accesses_ahead old r farthest_ahead slot) e (inside r) (inside' r) in
      λ little. at_most_small x reach.first reach.end n reach.moved b.0 little near bottom top (lies b.0 b.2 b.3) (le_of high (b.0.offset +ℤ pos (byte_count b.0.size)) b.1)
  within r reach (Most n) near bottom top lies e =
      let accesses = accesses_ahead old r farthest_ahead slot in
      let low : ℤ = (pos reach.first +ℤ reach.moved) -ℤ pos 0 in
      let high : ℤ = (pos reach.end +ℤ reach.moved) -ℤ pos n in
      let h = and_parts (list_any (is_met (Below low)) accesses) (list_any (is_met (Above high)) accesses) e in
      let a = any_of (is_met (Below low)) (InsideNear r) (InsideWide r) accesses h.0 (inside r) (inside' r) in
      let b = any_of (is_met (Above high)) (InsideNear r) (InsideWide r) accesses h.1 (inside r) (inside' r) in
      at_most x reach.first reach.end n reach.moved a.0 b.0 near (begins x reach.first reach.end 0 reach.moved a.0 small near top (lies a.0 a.2 a.3) (le_of a.0.offset low a.1)) a.2.near (lies b.0 b.2 b.3) (le_of high (b.0.offset +ℤ pos (byte_count b.0.size)) b.1)

  by_context : (t : Term) (r : Reg) (limit : GuardLimit) → (t.frames == 0) ≡ true → Differs start t (flat_register fn r) x → Differs other t (flat_register fw r) x
      → is_within front limit r (in_context bounds t) ≡ true → IsWithin limit x
  by_context t r limit none p q e =
      let moved : ℤ = cast_signed w64 ((t.moved + middle) % addresses) in
      let s : Same (pos x) (pos (flat_register fn r) +ℤ (pos (2 ^ 63) +ℤ moved)) = same_trans (differs_same start t (flat_register fn r) x p) (same_plus (same_refl (pos (flat_register fn r))) (same_trans (same_equal (plain_shift start t none)) (context_same t.moved))) in
      let s' : Same (pos x) (pos (flat_register fw r) +ℤ (pos (2 ^ 63) +ℤ moved)) = same_trans (differs_same other t (flat_register fw r) x q) (same_plus (same_refl (pos (flat_register fw r))) (same_trans (same_equal (plain_shift other t none)) (context_same t.moved))) in
      let same : flat_register fw r ≡ flat_register fn r = cancelled (flat_register fw r) (flat_register fn r) x x (pos (2 ^ 63) +ℤ moved) (flat'.numbers (register_number r)) (flat.numbers (register_number r)) s' s refl in
      within r (in_context bounds t) limit short (signed_bottom (t.moved + middle)) (signed_top (t.moved + middle))
      (λ a h k. wider x (bytes_before bounds.padded) (bytes_before bounds.padded + packet.length) bounds.length moved a few (in_packet deep shallow bounds.padded packet.length bounds.untouched x (flat_register fn r) (flat_register fw r) moved r a same s h k)) e

  by_frame : (t : Term) (r : Reg) (limit : GuardLimit) → (t.frames == 1) ≡ true → Differs start t (flat_register fn r) x → Differs other t (flat_register fw r) x
      → is_within front limit r (in_frame bounds t r) ≡ true → IsWithin limit x
  by_frame t r limit one p q e =
      let moved : ℤ = cast_signed w64 (t.moved % addresses) in
      let s : Same (pos x) (pos (flat_register fn r) +ℤ (moved -ℤ pos start)) = same_trans (differs_same start t (flat_register fn r) x p) (same_plus (same_refl (pos (flat_register fn r))) (same_trans (same_equal (frame_shift start t one)) (same_minus (signed_same t.moved) (same_refl (pos start))))) in
      let s' : Same (pos x) (pos (flat_register fw r) +ℤ (moved -ℤ pos other)) = same_trans (differs_same other t (flat_register fw r) x q) (same_plus (same_refl (pos (flat_register fw r))) (same_trans (same_equal (frame_shift other t one)) (same_minus (signed_same t.moved) (same_refl (pos other))))) in
      within r (in_frame bounds t r) limit (omega arith) (signed_bottom t.moved) (signed_top t.moved) (λ a h k. frame_lies moved r a s s' h k) e

  by_pointer : (t : Term) (r : Reg) (limit : GuardLimit) → Differs start t (flat_register fn r) x → Differs other t (flat_register fw r) x
      → is_tested_by front limit t r ≡ true → IsWithin limit x
  by_pointer t r limit p q e = of_context (t.frames == 0) refl e
    where
      of_frame : (b : Bool) → (t.frames == 1) ≡ b → option_map_or (is_within front limit r) (if b then Some (in_frame bounds t r) else None) false ≡ true
          → IsWithin limit x
      of_frame true one h = by_frame t r limit one p q h
      of_frame false one h = absurd (false≢true h)

      of_context : (b : Bool) → (t.frames == 0) ≡ b
          → option_map_or (is_within front limit r) (if b then Some (in_context bounds t) else if t.frames == 1 then Some (in_frame bounds t r) else None) false ≡ true
          → IsWithin limit x
      of_context true none h = by_context t r limit none p q h
      of_context false none h = of_frame (t.frames == 1) refl h

  -- what is known of it at both placements
  pub guard_passes : (order : Order) (limit : GuardLimit) (fact : Fact) → DiffersBy start fact.by (value_in order start packet fn fact.base) x
      → DiffersBy other fact.by (value_in order other packet fw fact.base) x → is_tested front limit fact ≡ true → IsWithin limit x
  guard_passes order limit fact p q e = by_term fact.by refl e
    where
      by_base : (t : Term) → fact.by ≡ Some t → (o : Option Holder) → fact.base ≡ o → option_map_or (is_tested_in front limit t) o false ≡ true → IsWithin limit x
      by_base t et None eo h = absurd (false≢true h)
      by_base t et (Some (Slot n)) eo h = absurd (false≢true h)
      by_base t et (Some Length) eo h = absurd (false≢true h)
      by_base t et (Some (Register r)) eo h =
          by_pointer t r limit (subst (λ base. DiffersBy start (Some t) (value_in order start packet fn base) x) eo (subst (λ by. DiffersBy start by (value_in order start packet fn fact.base) x) et p))
          (subst (λ base. DiffersBy other (Some t) (value_in order other packet fw base) x) eo (subst (λ by. DiffersBy other by (value_in order other packet fw fact.base) x) et q)) h

      by_term : (o : Option Term) → fact.by ≡ o → option_map_or (λ t. option_map_or (is_tested_in front limit t) fact.base false) o false ≡ true → IsWithin limit x
      by_term None eo h = absurd (false≢true h)
      by_term (Some t) eo h = by_base t eo fact.base refl h
