use Rattle.bpf_text.proofs.listed_line.ListedLine.+digits.Given as goal

abbrev pub decreases-digits : goal.decreases-digits
decreases-digits l = l.value
