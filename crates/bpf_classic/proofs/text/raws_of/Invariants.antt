use Rattle.std.proofs.Common.{◌≡◌, ◌+◌, ◌≤◌, [], length}
use Rattle.std.specs.Option.{option_map_or}
use Rattle.bpf_classic.specs.Text.{parts, raws_of, read_lines}
use Rattle.bpf_classic.specs.declared.border.Border.TheVariants.{Line}
use Rattle.bpf_classic.proofs.text.raws_of.Given as goal

-- what is left goes on from the lines so far, and there are at most as many as bytes, and one
abbrev pub invariant-lines : goal.invariant-lines
invariant-lines l =
    (raws_of l.fn.text ≡ read_lines l.line l.said l.raws.items (option_map_or (λ text. parts Line text.now) l.rest []))
    × (l.line + option_map_or (λ text. length text.now + 1) l.rest 0 ≤ length l.fn.text + 1)

abbrev pub decreases-lines : goal.decreases-lines
decreases-lines l = option_map_or (λ text. length text.now + 1) l.rest 0
