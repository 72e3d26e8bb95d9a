use Rattle.bpf_cert.proofs.sound.SoundBuilder.{ended_sound}
use Rattle.bpf_cert.proofs.building.Builder.finish.Goals as goal

pub of_parts-requires : goal.of_parts-requires
of_parts-requires c = ended_sound c.requires.0 c.args.self c.requires.1 c.requires.2
