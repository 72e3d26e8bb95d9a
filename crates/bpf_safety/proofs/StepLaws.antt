-- The step of each instruction that neither branches nor enters or leaves a function.
use Rattle.bpf_insn.specs.declared.instruction.Insn.TheVariants.{Alu, Neg, MovSx, End, LoadImm64, Load, LoadSx, Store, StoreImm, Atomic, Ja, JaLong, JumpIf, CallLocal, Exit}
use Rattle.bpf_num.specs.Laws.{ConstantHas, ConstantIs, TightenKeeps, AluKeeps, NegKeeps, MovsxKeeps, EndKeeps}
use Rattle.bpf_safety.specs.Laws.{StepKeeps}
use Rattle.bpf_safety.proofs.PlainLaws.{alu_keeps, neg_keeps, movsx_keeps, end_keeps, load_imm_keeps, ja_keeps, ja_long_keeps}
use Rattle.bpf_safety.proofs.Loads.{load_keeps}
use Rattle.bpf_safety.proofs.ExtendedLoads.{load_sx_keeps}
use Rattle.bpf_safety.proofs.RegisterStores.{store_keeps}
use Rattle.bpf_safety.proofs.FrameStores.{store_imm_keeps}
use Rattle.bpf_safety.proofs.Atomics.{atomic_keeps}

module _ (has : ConstantHas) (known : ConstantIs) (tightens : TightenKeeps) (alus : AluKeeps) (negs : NegKeeps) (movsxs : MovsxKeeps) (ends : EndKeeps) where
  pub step_keeps : StepKeeps
  step_keeps p least most x (Alu op width dst src) s m m' j plain goes = alu_keeps has known tightens alus p least most x op width dst src s m m' j goes
  step_keeps p least most x (Neg width dst) s m m' j plain goes = neg_keeps p least most x negs width dst s m m' j goes
  step_keeps p least most x (MovSx width bits dst src) s m m' j plain goes = movsx_keeps p least most x movsxs width bits dst src s m m' j goes
  step_keeps p least most x (End kind bits dst) s m m' j plain goes = end_keeps p least most x ends kind bits dst s m m' j goes
  step_keeps p least most x (LoadImm64 dst value) s m m' j plain goes = load_imm_keeps p least most x has dst value s m m' j goes
  step_keeps p least most x (Load size dst src off) s m m' j plain goes = load_keeps tightens p least most x size dst src off s m m' j goes
  step_keeps p least most x (LoadSx size dst src off) s m m' j plain goes = load_sx_keeps tightens p least most x size dst src off s m m' j goes
  step_keeps p least most x (Store size dst off src) s m m' j plain goes = store_keeps p least most x size dst off src s m m' j goes
  step_keeps p least most x (StoreImm size dst off imm) s m m' j plain goes = store_imm_keeps has p least most x size dst off imm s m m' j goes
  step_keeps p least most x (Atomic wide op dst off src) s m m' j plain goes = atomic_keeps tightens p least most x wide op dst src off s m m' j goes
  step_keeps p least most x (Ja off) s m m' j plain goes = ja_keeps p least most x off s m m' j goes
  step_keeps p least most x (JaLong off) s m m' j plain goes = ja_long_keeps p least most x off s m m' j goes
  step_keeps p least most x (JumpIf cond width dst src off) s m m' j plain goes = absurd plain
  step_keeps p least most x (CallLocal off) s m m' j plain goes = absurd plain
  step_keeps p least most x Exit s m m' j plain goes = absurd plain
