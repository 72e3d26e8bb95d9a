-- What the parts of a number so far say together.
use Rattle.std.specs.Prelude.{◌≡◌, ℕ, ◌+◌, ◌≤◌, Bool, ◌&&◌, List, [], ◌∷◌, ◌++◌, Ok}
use Rattle.std.specs.List.{list_all}
use Rattle.bpf_cert.specs.Line.{Part}
use Rattle.bpf_cert.specs.Faults.{part_before, part_rank, is_limited_part}
use Rattle.bpf_cert.specs.Limits.{is_rising}
use Rattle.bpf_cert.specs.code.Findings.{tested}
use Rattle.bpf_cert.specs.Spelling.{unsigned_parts, signed_parts, bits_parts}
use Rattle.bpf_cert.specs.code.Seen.{is_canonical_part}
use Rattle.bpf_cert.specs.declared.num.Parts.{Parts}

abbrev pub are_canonical : List Part → Bool
are_canonical ps = list_all is_canonical_part ps && is_rising part_before ps

-- the lowest rank that may follow
abbrev pub next_rank : List Part → ℕ
next_rank [] = 0
next_rank (p ∷ []) = part_rank p + 1
next_rank (p ∷ q ∷ qs) = next_rank (q ∷ qs)

-- these are all parts, and none of them has a rank from `next` on
pub record SaysParts (next : ℕ) (us ss ks all : List Part) : Type 0 where
  pub same : us ++ ss ++ ks ≡ all
  pub no_unsigned : next ≤ 0 → us ≡ []
  pub no_signed : next ≤ 1 → ss ≡ []
  pub no_bits : next ≤ 2 → ks ≡ []

pub record IsSum (done : List Part) (s : Parts) : Type 0 where
  pub flaws : s.found ≡ tested (are_canonical done) (list_all is_limited_part done)
  pub next : s.next ≡ next_rank done
  pub says : s.found ≡ Ok tt → SaysParts s.next (unsigned_parts s.unsigned) (signed_parts s.signed) (bits_parts s.bits) done

-- the part was put where parts of its kind are
abbrev pub IsKept : Part → Parts → Parts → Type 0
IsKept (Part.unsigned lo hi) old new = (unsigned_parts new.unsigned ≡ Part.unsigned lo hi ∷ []) × (new.signed ≡ old.signed) × (new.bits ≡ old.bits)
IsKept (Part.signed lo hi) old new = (signed_parts new.signed ≡ Part.signed lo hi ∷ []) × (new.unsigned ≡ old.unsigned) × (new.bits ≡ old.bits)
IsKept (Part.bits v m) old new = (bits_parts new.bits ≡ Part.bits v m ∷ []) × (new.unsigned ≡ old.unsigned) × (new.signed ≡ old.signed)
