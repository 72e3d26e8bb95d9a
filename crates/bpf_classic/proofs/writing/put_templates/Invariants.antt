use Rattle.std.proofs.Common.{◌≡◌, ◌++◌, drop}
use Rattle.bpf_classic.specs.Template.{code}
use Rattle.bpf_classic.proofs.writing.put_templates.Given as goal

-- what is written, and the templates that are left, are what is to be written
abbrev pub invariant-loop-at : goal.invariant-loop-at
invariant-loop-at l = l.out.items ++ code l.layout (drop l.at l.list) ≡ l.initial.out.items ++ code l.layout l.list
