use Rattle.bpf_state.proofs.MaskedLemmas.{put_bytes, put_whole}
use Rattle.bpf_state.proofs.masked.Slots.set.Goals as goal

pub returns-in-Bytes : goal.returns-in-Bytes
returns-in-Bytes c = put_bytes _ _ _ c.args.index _ _ c.self.view_is c.self.invariant c.requires.place c.in-Bytes.is c.requires.value

pub returns-in-Word : goal.returns-in-Word
returns-in-Word c = put_whole _ _ _ c.args.index _ _ c.self.view_is c.self.invariant c.requires.place c.in-Word.is

pub returns-in-Spilled : goal.returns-in-Spilled
returns-in-Spilled c = put_whole _ _ _ c.args.index _ _ c.self.view_is c.self.invariant c.requires.place c.in-Spilled.is
