-- The labels and statements that the code keeps, without where names lie in memory.
use Rattle.std.specs.Prelude.{map}
use Rattle.bpf_text.specs.declared.source.Said.{Said as WrittenSaid}
use Rattle.bpf_text.specs.declared.source.Source.{Source as Written}
use Rattle.bpf_text.specs.Statements.{seen}
use Rattle.bpf_text.specs.code.Seen.{label_seen}
use Rattle.bpf_text.specs.Sources.{Said, Source}

abbrev pub said_seen : WrittenSaid → Said
said_seen s = record { statement = seen s.statement; slot = s.slot; line = s.line }

abbrev pub source_seen : Written → Source
source_seen s = record { labels = map label_seen s.labels.items; said = map said_seen s.said.items; fault = s.fault }
