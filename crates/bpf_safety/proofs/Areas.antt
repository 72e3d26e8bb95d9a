-- What a pointer of an abstract state points into.
use Rattle.std.proofs.Common.{◌≡◌, ℕ, ℤ, refl, subst, true}
use Rattle.std.proofs.lemmas.Bool.{false≢true, eq-eqb}
use Rattle.bpf_semantics.specs.declared.value.Region.{Region}
use Rattle.bpf_semantics.specs.declared.value.Region.TheVariants.{Context as TheContext, Frame as FrameAt}
use Rattle.bpf_semantics.specs.Step.{same_region}
use Rattle.bpf_state.specs.declared.known.RegState.{RegState}
use Rattle.bpf_state.specs.declared.known.RegState.TheVariants.{Ptr}
use Rattle.bpf_state.specs.declared.known.Area.{Area}
use Rattle.bpf_state.specs.declared.known.Area.TheVariants.{Context, Frame}
use Rattle.bpf_state.specs.declared.known.Pointer.{Pointer}
use Rattle.bpf_state.specs.State.{same_area}
use Rattle.bpf_safety.specs.Describes.{region_of}

abbrev pub context_pointer : ℤ → ℤ → RegState
context_pointer lo hi = Ptr (record { area = Context; lo = lo; hi = hi })

abbrev pub frame_pointer : ℤ → ℤ → RegState
frame_pointer lo hi = Ptr (record { area = Frame; lo = lo; hi = hi })

-- a pointer is into the one or the other
pub by_area : (P : RegState → Type 0) → ((lo hi : ℤ) → P (context_pointer lo hi)) → ((lo hi : ℤ) → P (frame_pointer lo hi)) → (p : Pointer) → P (Ptr p)
by_area P context frame p = at p.area p.lo p.hi
  where
    at : (area : Area) (lo hi : ℤ) → P (Ptr (record { area = area; lo = lo; hi = hi }))
    at Context lo hi = context lo hi
    at Frame lo hi = frame lo hi

pub area_is : (a b : Area) → same_area a b ≡ true → a ≡ b
area_is Context Context e = refl
area_is Context Frame e = absurd (false≢true e)
area_is Frame Context e = absurd (false≢true e)
area_is Frame Frame e = refl

same_as_itself : (region : Region) → same_region region region ≡ true
same_as_itself TheContext = refl
same_as_itself (FrameAt n) = eq-eqb n n refl

pub same_regions : (depth : ℕ) (a b : Area) → same_area a b ≡ true → same_region (region_of depth a) (region_of depth b) ≡ true
same_regions depth a b e = subst (λ b. same_region (region_of depth a) (region_of depth b) ≡ true) (area_is a b e) (same_as_itself (region_of depth a))
