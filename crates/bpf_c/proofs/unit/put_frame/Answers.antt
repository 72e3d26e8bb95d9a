use Rattle.std.proofs.Common.{sym, append-nil}
use Rattle.bpf_c.proofs.SaysLemmas.{says_more, says_of}
use Rattle.bpf_c.proofs.unit.put_frame.Goals as goal

pub returns : goal.returns
returns g c = says_more c.put.ensures (says_more c.put-2.ensures (says_more c.put-3.ensures (says_more c.put-4.ensures (says_more c.put_cases.ensures (says_of (sym (append-nil _)) c.put-5.ensures)))))
