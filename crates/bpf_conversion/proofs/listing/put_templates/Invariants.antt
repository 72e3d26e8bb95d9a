use Rattle.std.proofs.Common.{◌≡◌, ◌++◌, drop}
use Rattle.bpf_conversion.specs.Listed.{templates_text}
use Rattle.bpf_conversion.proofs.listing.put_templates.Given as goal

-- what is put, and the templates that are left, are what is to be put
abbrev pub invariant-loop-at : goal.invariant-loop-at
invariant-loop-at l = l.out.items ++ templates_text l.converted l.at (drop l.at l.raws) ≡ l.initial.out.items ++ templates_text l.converted 0 l.raws
