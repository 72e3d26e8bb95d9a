-- What is found in a part of a text: that it has no form, or else is not canonical, or else goes past a limit.
use Rattle.std.specs.Prelude.{Bool, not, Option, Some, None, Result, Ok, Err, if◌then◌else◌}
use Rattle.bpf_cert.specs.declared.finding.PartFault.{PartFault}
use Rattle.bpf_cert.specs.declared.finding.PartFault.TheVariants.{Syntax, NotCanonical, Limit}

abbrev pub tested : Bool → Bool → Result (Unit {0}) PartFault
tested canonical limited = if not canonical then Err NotCanonical else if not limited then Err Limit else Ok tt

abbrev pub graver : PartFault → PartFault → PartFault
graver Syntax g = Syntax
graver NotCanonical Syntax = Syntax
graver NotCanonical NotCanonical = NotCanonical
graver NotCanonical Limit = NotCanonical
graver Limit g = g

-- the graver flaw, and the value where there is none
abbrev pub joined : {A : Type 0} → Result (Unit {0}) PartFault → Result A PartFault → Result A PartFault
joined (Ok u) r = r
joined (Err f) (Ok v) = Err f
joined (Err f) (Err g) = Err (graver f g)

-- the form, if it is there, canonical and within the limits
abbrev pub found : {A : Type 0} → (A → Bool) → (A → Bool) → Option A → Result A PartFault
found canonical limited None = Err Syntax
found canonical limited (Some a) = if not (canonical a) then Err NotCanonical else if not (limited a) then Err Limit else Ok a

-- what is said of a value that was found
abbrev pub valued : {A B : Type 0} → (A → B) → Result A PartFault → Result B PartFault
valued f (Ok a) = Ok (f a)
valued f (Err flaw) = Err flaw
