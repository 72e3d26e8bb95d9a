-- What is said of the packets of a capture where answering stops.
use Rattle.std.proofs.Common.{◌≡◌, ℕ, List, Option, Result, Ok, Err, IfOk, IfErr, inr, refl, subst, sym}
use Rattle.std.specs.Io.KnownBytes.{Appends}
use Rattle.bpf_insn.specs.Instruction.{Instructions}
use Rattle.bpf_cert.specs.View.{CertificateView}
use Rattle.bpf_check.specs.CheckedProgram.{CheckedProgram, IsCertifiedBy, checked}
use Rattle.bpf_answers.specs.Opened.{Opening}
use Rattle.bpf_answers.specs.Loaded.{CertificateAt}
use Rattle.bpf_captures.specs.Stops.{Replays}
use Rattle.bpf_captures.specs.declared.turn.CaptureEnd.{CaptureEnd}
use Rattle.bpf_captures.specs.declared.turn.CaptureEnd.TheVariants.{Failed}
use Rattle.bpf_answers.proofs.MadeLemmas.{whole}
use Rattle.bpf_answers.specs.declared.reply.Reply.{Reply}
use Rattle.bpf_answers.specs.declared.failure.Failure.{Failure}
use Rattle.bpf_answers.specs.declared.failure.Failure.TheVariants.{CannotRead}
use Rattle.bpf_command.specs.Replayed.{EndsBy, Gives, JudgedPacketsFail, PacketsFail, ReplayFails, ReplayLeft, ReplaySays, blocks_of}
use Rattle.bpf_command.specs.declared.commands.packets.Packets.{Packets}

-- what `replay` gives where it stops
abbrev pub Stopped : Packets → CheckedProgram → Option (List ℕ) → Option (List ℕ) → Option (List ℕ) → CaptureEnd → Type 0
Stopped packets k known before after stop = Replays (Gives k) (blocks_of packets.order k) known packets.counts (Appends before after) stop

pub replay_says : {E : Type 0} (packets : Packets) (k : CheckedProgram) (known before after : Option (List ℕ)) (stop : CaptureEnd) (result : Result Reply E) → Stopped packets k known before after stop
    → IfOk result (EndsBy stop) → IfOk result (ReplaySays packets k known before after)
replay_says packets k known before after stop (Ok reply) h e = record { stop = stop; values = h.0; text = h.1; replayed = h.2; told = h.3; ends = e; printed = h.4 }
replay_says packets k known before after stop (Err f) h e = tt

pub replay_fails : (packets : Packets) (k : CheckedProgram) (known before after : Option (List ℕ)) (stop : CaptureEnd) (result : Result Reply Failure) → Stopped packets k known before after stop
    → IfErr result (λ failure. (stop ≡ Failed) × (failure ≡ CannotRead packets.name)) → IfErr result (ReplayFails packets k known before after)
replay_fails packets k known before after stop (Ok reply) h e = tt
replay_fails packets k known before after stop (Err failure) h e =
    subst (ReplayFails packets k known before after) (sym e.1) (refl, subst (Stopped packets k known before after) e.0 h)

pub replay_leaves : (packets : Packets) (k : CheckedProgram) (known before after : Option (List ℕ)) (stop : CaptureEnd) (result : Result Reply Failure) → Stopped packets k known before after stop
    → IfErr result (λ failure. (stop ≡ Failed) × (failure ≡ CannotRead packets.name)) → IfErr result (λ _. ReplayLeft packets k known before after)
replay_leaves packets k known before after stop (Ok reply) h e = tt
replay_leaves packets k known before after stop (Err failure) h e =
    let stopped : Stopped packets k known before after Failed = subst (Stopped packets k known before after) e.0 h in
    (stopped.0, stopped.1, stopped.2, stopped.3, whole before after stopped.1 stopped.4)

-- ---- behind a certificate

pub judged_packets_fail : {S A : Type 0} (result : Result A Failure) (opening : Opening S) (old : S) (packets : Packets) (between new : S) (p : Instructions) (c : CertificateView) (k : CheckedProgram) (before after : Option (List ℕ))
    → CertificateAt opening old packets.certificate.now between c → IsCertifiedBy p c → k ≡ checked p c
    → IfErr result (PacketsFail opening between packets new k before after) → IfErr result (JudgedPacketsFail opening old packets new p before after)
judged_packets_fail (Ok x) opening old packets between new p c k before after read by same h = tt
judged_packets_fail (Err f) opening old packets between new p c k before after read by same h =
    inr (between, c, read, by, subst (λ q. PacketsFail opening between packets new q before after f) same h)
