-- Taking bytes from a buffer in front of a reader.
use Rattle.std.proofs.Common.{◌≡◌, ℕ, suc, ◌+◌, ◌-◌, ◌<◌, ◌≤◌, List, [], ◌∷◌, ◌++◌, length, get_or, take, drop, Option, Some, None, refl, sym, ap, ◌∙◌, arith}
use Rattle.std.proofs.lemmas.List.{drop_more}
use Rattle.std.specs.Io.KnownBytes.{Consumes, Keeps}
use Rattle.bpf_streams.specs.Taken.{unread}

sub_suc : (a b : ℕ) → a < b → b - a ≡ suc (b - (a + 1))
sub_suc a b h = omega arith

front : (buffer : List ℕ) (at end : ℕ) → at < end → end ≤ length buffer
    → take (end - at) (drop at buffer) ≡ get_or buffer at 0 ∷ take (end - (at + 1)) (drop (at + 1) buffer)
front buffer at end h fits = let inside : at < length buffer = omega arith in
    rw (sub_suc at end h, drop_more buffer at 0 inside) refl

pub byte_taken : (old r : Option (List ℕ)) (buffer : List ℕ) (at end : ℕ) → at < end → end ≤ length buffer
    → Keeps old (unread r buffer at end) → Consumes old (unread r buffer (at + 1) end) (get_or buffer at 0 ∷ [])
byte_taken None r buffer at end h fits kept = tt
byte_taken (Some xs) None buffer at end h fits kept = absurd kept
byte_taken (Some xs) (Some ys) buffer at end h fits kept = sym kept ∙ ap (λ z. z ++ ys) (front buffer at end h fits)

empty : (r : Option (List ℕ)) (buffer : List ℕ) (at end : ℕ) → at ≡ end → unread r buffer at end ≡ r
empty None buffer at end e = refl
empty (Some xs) buffer at end e = let none : end - at ≡ 0 = omega arith in rw none refl

-- the first byte of what a read put into the empty buffer
pub first_byte : (old r new : Option (List ℕ)) (buffer buf : List ℕ) (at end n : ℕ) → at ≡ end → unread r buffer at end ≡ old
    → Consumes r new (take n buf) → (n ≡ 0 → ⊥) → n ≤ length buf → Consumes old (unread new buf 1 n) (get_or buf 0 0 ∷ [])
first_byte old r new buffer buf at end n bare same read some fits =
    let e : r ≡ old = sym (empty r buffer at end bare) ∙ same in
    byte_taken old new buf 0 n (omega arith) fits (kept old r new buf n e read)
  where
    kept : (old r new : Option (List ℕ)) (buf : List ℕ) (n : ℕ) → r ≡ old → Consumes r new (take n buf) → Keeps old (unread new buf 0 n)
    kept None r new buf n e read = tt
    kept (Some xs) None new buf n e read = cc
    kept (Some xs) (Some ys) None buf n e read = absurd read
    kept (Some xs) (Some ys) (Some zs) buf n e read = let whole : n - 0 ≡ n = omega arith in rw whole (let same : ys ≡ xs = cc in sym read ∙ same)

pub keeps_same : (old new : Option (List ℕ)) → new ≡ old → Keeps old new
keeps_same None new e = tt
keeps_same (Some xs) None e = cc
keeps_same (Some xs) (Some ys) e = cc

pub end_kept : (a b c : Option (List ℕ)) (xs : List ℕ) → Consumes a b xs → Keeps b c → Consumes a c xs
end_kept None b c xs took kept = tt
end_kept (Some ys) None c xs took kept = absurd took
end_kept (Some ys) (Some bs) None xs took kept = absurd kept
end_kept (Some ys) (Some bs) (Some cs) xs took kept = rw kept took
