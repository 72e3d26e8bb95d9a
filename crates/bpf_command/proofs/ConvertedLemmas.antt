-- What is said of the names of a conversion, from what is said of each.
use Rattle.std.proofs.Common.{◌≡◌, ◌≤◌, ℕ, min, List, Bool, true, false, Option, Some, None, refl, sym, subst, inl, inr, arith}
use Rattle.std.specs.Prelude.{◌==◌, ◌&&◌, ◌||◌, not, nat_lt, if◌then◌else◌}
use Rattle.std.proofs.lemmas.Bool.{false≢true, ltb-false}
use Rattle.std.proofs.Math.Nat.{le-min}
use Rattle.std.specs.Borrow.{Bor}
use Rattle.bpf_insn.specs.Limits.{max_context}
use Rattle.bpf_classic.specs.declared.raw.Raw.{Raw}
use Rattle.bpf_classic.specs.Template.{head}
use Rattle.bpf_classic.specs.declared.layout.Form.{Form}
use Rattle.bpf_classic.specs.declared.layout.Form.TheVariants.{Blocks, Plain, Seccomp, Extended}
use Rattle.bpf_conversion.specs.declared.made.Made.{Made}
use Rattle.bpf_command.specs.declared.request.converting.Converting.{Converting}
use Rattle.bpf_answers.specs.Opened.{Opening}
use Rattle.bpf_answers.specs.Loaded.{BytesAt, max_text}
use Rattle.bpf_answers.specs.declared.certified.Certification.{Certification}
use Rattle.bpf_answers.specs.declared.failure.Failure.{Failure}
use Rattle.bpf_answers.specs.declared.failure.Failure.TheVariants.{CannotRead, CannotWrite, NoMemory}
use Rattle.bpf_command.specs.Converted.{ConvertFails, Converts, FilterUnread, IsMadeOf, form_of, is_misfit, IsOfListing, Missing, NotAll, NotConverted, Placing, told_of}

-- ---- the length

head_few : (form : Form) → head form ≤ max_context
head_few Blocks = omega arith
head_few Plain = omega arith
head_few Seccomp = omega arith
head_few Extended = omega arith

-- a length that its form has gives room for what stands in front of a packet
room : (seccomp extensions plain : Bool) (length : ℕ)
    → (if seccomp then plain || extensions || not (length == 64) else if extensions then plain || nat_lt length 72 else not plain && nat_lt length 8) ≡ false
    → head (if seccomp then Seccomp else if extensions then Extended else if plain then Plain else Blocks) ≤ length
room true extensions plain length e = omega arith
room false true true length e = absurd (false≢true (sym e))
room false true false length e = ltb-false length 72 e
room false false true length e = omega arith
room false false false length e = ltb-false length 8 e

-- so does the greatest one
pub within : (c : Converting) → is_misfit c ≡ false → head (form_of c) ≤ min c.length max_context
within c fits = le-min (room c.seccomp c.extensions c.plain c.length fits) (head_few (form_of c))

-- ---- what is made

-- what was made of the bytes at the name is told
pub converts_of : {S : Type 0} (o : Opening S) (old : S) (c : Converting) (new : S) (bytes : List ℕ) (raws : List Raw) (made : Made) (length : ℕ) (told : Certification)
    → (c.length ≤ max_context → length ≡ c.length) → BytesAt max_text o old c.input.now new bytes → IsMadeOf c length bytes raws made
    → told ≡ told_of length made → Converts o old c new raws made told
converts_of o old c new bytes raws made length told short read is_made same =
    subst (Converts o old c new raws made) (sym same) (record { bytes = bytes; read = read; is_made = is_made; length_is = short; told_is = refl })

-- ---- failures

-- the filter can't be read
pub unread : {S : Type 0} (o : Opening S) (p : Placing S) (old : S) (c : Converting) (new : S) (f : Failure) → FilterUnread o old c.input.now new f → ConvertFails o p old c new f
unread o p old c new (CannotRead name) fails = fails
unread o p old c new NoMemory fails = tt
unread o p old c new (CannotWrite name) fails = absurd fails
unread o p old c new f fails = fails

name_of : (listing : Option (Bor (List ℕ))) (f : Failure) → IsOfListing listing f → (name : Bor (List ℕ)) × (f ≡ CannotWrite name)
name_of None f is = absurd is
name_of (Some name) f is = (name, is)

-- not all stands, for a name that can't be written or for want of memory
by_name : {S : Type 0} (o : Opening S) (p : Placing S) (old : S) (c : Converting) (between new : S) (raws : List Raw) (made : Made) (told : Certification) (f : Failure)
    (name : Bor (List ℕ)) → f ≡ CannotWrite name → Converts o old c between raws made told → NotAll p between c raws made new f → ConvertFails o p old c new f
by_name o p old c between new raws made told f name is converts all =
    subst (λ g. NotAll p between c raws made new g → ConvertFails o p old c new g) (sym is) (λ known. (between, raws, made, told, converts, known)) all

by_memory : {S : Type 0} (o : Opening S) (p : Placing S) (old : S) (c : Converting) (new : S) (f : Failure) → f ≡ NoMemory → ConvertFails o p old c new f
by_memory o p old c new f is = subst (ConvertFails o p old c new) (sym is) tt

pub fails_by : {S : Type 0} (o : Opening S) (p : Placing S) (old : S) (c : Converting) (between new : S) (raws : List Raw) (made : Made) (told : Certification) (f : Failure)
    → Converts o old c between raws made told → NotAll p between c raws made new f → ConvertFails o p old c new f
fails_by o p old c between new raws made told f converts (inl (is, same)) = by_memory o p old c new f is
fails_by o p old c between new raws made told f converts (inr (inl (inl is, stand))) =
    by_name o p old c between new raws made told f c.output is converts (inr (inl (inl is, stand)))
fails_by o p old c between new raws made told f converts (inr (inl (inr (inl is), stand))) =
    by_name o p old c between new raws made told f c.certificate is converts (inr (inl (inr (inl is), stand)))
fails_by o p old c between new raws made told f converts (inr (inl (inr (inr (inl is)), stand))) = by_memory o p old c new f is
fails_by o p old c between new raws made told f converts (inr (inl (inr (inr (inr is)), stand))) =
    let n = name_of c.listing f is in by_name o p old c between new raws made told f n.0 n.1 converts (inr (inl (inr (inr (inr is)), stand)))
fails_by o p old c between new raws made told f converts (inr (inr (inl (is, stand)))) =
    by_name o p old c between new raws made told f c.certificate is converts (inr (inr (inl (is, stand))))
fails_by o p old c between new raws made told f converts (inr (inr (inr (is, stand)))) =
    let n = name_of c.listing f is in by_name o p old c between new raws made told f n.0 n.1 converts (inr (inr (inr (is, stand))))

missing_of : {S : Type 0} (p : Placing S) (old : S) (c : Converting) (raws : List Raw) (made : Made) (new : S) (f : Failure) → NotAll p old c raws made new f → Missing p old c raws made new
missing_of p old c raws made new f (inl (is, same)) = inl same
missing_of p old c raws made new f (inr (inl (is, stand))) = inr (inl stand)
missing_of p old c raws made new f (inr (inr (inl (is, stand)))) = inr (inr (inl stand))
missing_of p old c raws made new f (inr (inr (inr (is, stand)))) = inr (inr (inr stand))

pub left_by : {S : Type 0} (o : Opening S) (p : Placing S) (old : S) (c : Converting) (between new : S) (raws : List Raw) (made : Made) (told : Certification) (f : Failure)
    → Converts o old c between raws made told → NotAll p between c raws made new f → NotConverted o p old c new
left_by o p old c between new raws made told f converts all = inr (between, raws, made, told, converts, missing_of p between c raws made new f all)
