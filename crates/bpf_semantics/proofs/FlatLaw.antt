-- Where the machine steps, the flat machine follows it.
use Rattle.std.proofs.Common.{◌≡◌, suc, List, [], Some, ap, sym, subst, length, ◌<◌, ◌+◌, ◌%◌, ℕ, arith, ◌∙◌, inl, inr}
use Rattle.std.specs.Prelude.{ℤ, true, cond}
use Rattle.std.proofs.lemmas.Option.{none-some, same_Some, option_and_then_some}
use Rattle.bpf_insn.specs.Instruction.{Instructions, byte_count, insn_at, word_size}
use Rattle.bpf_semantics.specs.State.{StackFrame, State, depth, max_frames, register, number_of_register}
use Rattle.bpf_semantics.specs.Memory.{Location, location_of, number_at, store_number, store_pointer}
use Rattle.bpf_semantics.specs.Memory.Location.{InContext, InFrame}
use Rattle.bpf_semantics.specs.Flat.{addresses, Placement, FlatState, flat_register, flat_does, FlatDoes, FlatReturn, Return}
use Rattle.bpf_semantics.specs.Placement.{IsPlacement, Fits, IsInMemory, IsInFrames, FitReturns}
use Rattle.bpf_insn.specs.declared.order.Order.{Order}
use Rattle.bpf_insn.specs.declared.instruction.Reg.TheVariants.{R0}
use Rattle.bpf_semantics.specs.declared.value.Value.{Value}
use Rattle.bpf_semantics.specs.declared.value.Value.TheVariants.{Number, Pointer}
use Rattle.bpf_semantics.specs.declared.value.Region.{Region}
use Rattle.bpf_insn.specs.Image.{HasEncoding, IsProgram}
use Rattle.bpf_insn.specs.Arithmetic.{extended}
use Rattle.bpf_semantics.specs.Step.{does, next, store, atomic_result, step_of, finish_of}
use Rattle.bpf_insn.specs.declared.instruction.Size.{Size}
use Rattle.bpf_insn.specs.declared.instruction.Size.TheVariants.{DW}
use Rattle.bpf_insn.specs.declared.instruction.Insn.{Insn}
use Rattle.bpf_insn.specs.declared.instruction.Insn.TheVariants.{Alu, Neg, MovSx, End, LoadImm64, Load, LoadSx, Store, StoreImm, Atomic, Ja, JaLong, JumpIf, CallLocal, Exit}
use Rattle.bpf_insn.specs.Effects.{Access, access_of}
use Rattle.bpf_semantics.specs.FlatLaws.{Follows, FlatFollows, FlatFinishes}
use Rattle.std.proofs.lemmas.List.{nil_from_length}
use Rattle.std.proofs.lemmas.Bool.{false≢true}
use Rattle.bpf_semantics.proofs.FlatBase.{stands}
use Rattle.bpf_semantics.proofs.FlatLoad.{place_address, IsAt, place_fits}
use Rattle.bpf_semantics.proofs.FlatInsn.{Lands, Given, alu_lands, neg_lands, mov_sx_lands, end_lands, load_imm_lands, ja_lands, ja_long_lands, jump_if_lands, number_stands}
use Rattle.bpf_semantics.proofs.FlatAccess.{load_lands, load_sx_lands, store_lands, store_imm_lands, atomic_lands, size_some}
use Rattle.bpf_semantics.proofs.FlatCall.{call_lands, exit_lands, returns_length}
use Rattle.bpf_semantics.proofs.StateLemmas.{IsGood, encoding_at, exit_is}

-- Where the machine steps, the flat machine follows it.
-- ---- registers

-- ---- what an access reaches

abbrev pub IsFramePlace : Location → Type 0
IsFramePlace (InContext i) = ⊥
IsFramePlace (InFrame n i) = Unit {0}

pub record Reaches (place : Placement) (s : State) (f : FlatState) (a : Access) : Type 0 where
  pub where_at : Location
  pub is_at : IsAt place s (byte_count a.size) a.offset (flat_register f a.base) where_at
  pub written : a.writes ≡ true → IsFramePlace where_at

stored_in_frame : (order : Order) (k x : ℕ) (pl : Location) (s t : State) → store_number order k x pl s ≡ Some t → IsFramePlace pl
unfolding store_number
stored_in_frame order k x (InContext i) s t e = none-some _ e
stored_in_frame order k x (InFrame n i) s t e = tt

pointer_in_frame : (region : Region) (off : ℤ) (pl : Location) (s t : State) → store_pointer region off pl s ≡ Some t → IsFramePlace pl
unfolding store_pointer
pointer_in_frame region off (InContext i) s t e = none-some _ e
pointer_in_frame region off (InFrame n i) s t e = tt

value_in_frame : (order : Order) (size : Size) (v : Value) (pl : Location) (s t : State) → store order size v pl s ≡ Some t → IsFramePlace pl
value_in_frame order size (Number x) pl s t e = stored_in_frame order (byte_count size) x pl s t e
value_in_frame order DW (Pointer region off) pl s t e = pointer_in_frame region off pl s t e
value_in_frame order size (Pointer region off) pl s t e = absurd (none-some _ e)

reaches : (order : Order) (place : Placement) (s t : State) (f : FlatState) (i : Insn) (a : Access) → Given order place s f → does order i s ≡ Some t → access_of i ≡ Some a → Reaches place s f a
unfolding does
reaches order place s t f (Load size dst src off) a g e ea =
    subst (Reaches place s f) (same_Some _ _ ea) (option_and_then_some _ (register s src) t e (λ base ebase e1. option_and_then_some _ (location_of s (byte_count size) off base) t e1 (λ pl epl e2.
    record { where_at = pl; is_at = place_fits place s (byte_count size) off base (flat_register f src) pl (size_some size) g.placed g.is_state.few_frames (stands g.fit src base ebase) epl; written = λ h. absurd (false≢true h) })))
reaches order place s t f (LoadSx size dst src off) a g e ea =
    subst (Reaches place s f) (same_Some _ _ ea) (option_and_then_some _ (register s src) t e (λ base ebase e1. option_and_then_some _ (location_of s (byte_count size) off base) t e1 (λ pl epl e2.
    record { where_at = pl; is_at = place_fits place s (byte_count size) off base (flat_register f src) pl (size_some size) g.placed g.is_state.few_frames (stands g.fit src base ebase) epl; written = λ h. absurd (false≢true h) })))
reaches order place s t f (Store size dst off src) a g e ea =
    subst (Reaches place s f) (same_Some _ _ ea) (option_and_then_some _ (register s dst) t e (λ base ebase e1. option_and_then_some _ (register s src) t e1 (λ v ev e2. option_and_then_some _ (location_of s (byte_count size) off base) t e2 (λ pl epl e3.
    record { where_at = pl; is_at = place_fits place s (byte_count size) off base (flat_register f dst) pl (size_some size) g.placed g.is_state.few_frames (stands g.fit dst base ebase) epl; written = λ h. value_in_frame order size v pl _ t e3 }))))
reaches order place s t f (StoreImm size dst off imm) a g e ea =
    subst (Reaches place s f) (same_Some _ _ ea) (option_and_then_some _ (register s dst) t e (λ base ebase e1. option_and_then_some _ (location_of s (byte_count size) off base) t e1 (λ pl epl e3.
    record { where_at = pl; is_at = place_fits place s (byte_count size) off base (flat_register f dst) pl (size_some size) g.placed g.is_state.few_frames (stands g.fit dst base ebase) epl; written = λ h. value_in_frame order size (Number (extended imm)) pl _ t e3 })))
reaches order place s t f (Atomic wide op dst off src) a g e ea =
    let size : Size = word_size wide in
    let k : ℕ = byte_count size in
    subst (Reaches place s f) (same_Some _ _ ea) (option_and_then_some _ (register s dst) t e (λ base ebase e1. option_and_then_some _ (number_of_register s src) t e1 (λ x ex e2. option_and_then_some _ (location_of s k off base) t e2 (λ pl epl e3. option_and_then_some _ (number_at order s k pl) t e3 (λ old eold e4. option_and_then_some _ (atomic_result op size old x (number_of_register s R0)) t e4 (λ new enew e5. option_and_then_some _ (store_number order k new pl (next (Atomic wide op dst off src) s)) t e5 (λ after eafter e6.
    record { where_at = pl; is_at = place_fits place s k off base (flat_register f dst) pl (size_some size) g.placed g.is_state.few_frames (stands g.fit dst base ebase) epl; written = λ h. stored_in_frame order k new pl _ after eafter })))))))
reaches order place s t f i a g e ea = absurd (none-some _ ea)

reached_memory : (place : Placement) (s : State) (live k j : ℕ) (pl : Location) → IsPlacement (length s.context) place → depth s < max_frames → live ≡ depth s → IsGood s k pl → j < k → IsInMemory place (length s.context) live ((place_address place pl + j) % addresses)
reached_memory place s live k j (InContext i) isp few same good hj = let e = isp.context_inside in inl (omega arith, omega arith)
reached_memory place s live k j (InFrame n i) isp few same good hj = let room = good.1 in let h = good.0 in let n8 : n < max_frames = omega arith in let e = isp.frame_inside n n8 in inr (n, omega arith, (omega arith, omega arith))

reached_frames : (place : Placement) (s : State) (live k j : ℕ) (pl : Location) → IsPlacement (length s.context) place → depth s < max_frames → live ≡ depth s → IsGood s k pl → j < k → IsFramePlace pl → IsInFrames place live ((place_address place pl + j) % addresses)
reached_frames place s live k j (InContext i) isp few same good hj fr = absurd fr
reached_frames place s live k j (InFrame n i) isp few same good hj fr = let room = good.1 in let h = good.0 in let n8 : n < max_frames = omega arith in let e = isp.frame_inside n n8 in (n, omega arith, (omega arith, omega arith))

abbrev pub Leads : Order → Placement → Insn → FlatState → State → Type 0
Leads order place i f t = ((g : FlatState) × FlatDoes place order i f g) × ((g : FlatState) → FlatDoes place order i f g → Fits order place t g)

abbrev pub LeadsTo : Order → Placement → Insn → FlatState → State → Type 0
LeadsTo order place i f t = ((g : FlatState) × (flat_does order i f ≡ Some g)) × ((g : FlatState) → flat_does order i f ≡ Some g → Fits order place t g)

landed : (order : Order) (place : Placement) (i : Insn) (f : FlatState) (t : State) → Lands order place i f t → LeadsTo order place i f t
landed order place i f t l = ((l.state, l.does), λ g e. subst (Fits order place t) (same_Some _ _ (sym l.does ∙ e)) l.fits)

leads : (order : Order) (place : Placement) (i : Insn) (s t : State) (f : FlatState) → HasEncoding i → Given order place s f → does order i s ≡ Some t → Leads order place i f t
leads order place (Alu op width dst src) s t f enc g e = landed order place _ f t (alu_lands order place s t f op width dst src g e)
leads order place (Neg width dst) s t f enc g e = landed order place _ f t (neg_lands order place s t f width dst g e)
leads order place (MovSx width bits dst src) s t f enc g e = landed order place _ f t (mov_sx_lands order place s t f width bits dst src g e)
leads order place (End kind bits dst) s t f enc g e = landed order place _ f t (end_lands order place s t f kind bits dst g e)
leads order place (LoadImm64 dst value) s t f enc g e = landed order place _ f t (load_imm_lands order place s t f dst value enc g e)
leads order place (Load size dst src off) s t f enc g e = landed order place _ f t (load_lands order place s t f size dst src off g e)
leads order place (LoadSx size dst src off) s t f enc g e = landed order place _ f t (load_sx_lands order place s t f size dst src off g e)
leads order place (Store size dst off src) s t f enc g e = landed order place _ f t (store_lands order place s t f size dst off src g e)
leads order place (StoreImm size dst off imm) s t f enc g e = landed order place _ f t (store_imm_lands order place s t f size dst off imm g e)
leads order place (Atomic wide op dst off src) s t f enc g e = landed order place _ f t (atomic_lands order place s t f wide op dst off src g e)
leads order place (Ja off) s t f enc g e = landed order place _ f t (ja_lands order place s t f off g e)
leads order place (JaLong off) s t f enc g e = landed order place _ f t (ja_long_lands order place s t f off g e)
leads order place (JumpIf cond width dst src off) s t f enc g e = landed order place _ f t (jump_if_lands order place s t f cond width dst src off g e)
leads order place (CallLocal off) s t f enc g e = call_lands order place s t f off g e
leads order place Exit s t f enc g e = exit_lands order place s t f g e

-- ---- the law

follows : (place : Placement) (p : Instructions) (s t : State) (f : FlatState) (i : Insn) → Given p.order place s f → IsProgram p.list → insn_at p.list s.top.slot ≡ Some i → does p.order i s ≡ Some t → Follows place p s t f
follows place p s t f i g prog ei e =
    let here : insn_at p.list f.slot ≡ Some i = ap (insn_at p.list) g.fit.slot_is ∙ ei in
    let l : Leads p.order place i f t = leads p.order place i s t f (encoding_at p.list prog.encoding s.top.slot i ei) g e in
    let count : length f.returns ≡ depth s = returns_length place s.waiting f.returns g.fit.returns_fit in
    record {
      has_step = (l.0.0, record { insn = i; stands = here; does = l.0.1 });
      fits = λ h st. let same : st.insn ≡ i = same_Some _ _ (sym st.stands ∙ here) in l.1 h (subst (λ i. FlatDoes place p.order i f h) same st.does);
      inside = record {
        reads = λ i' a j ei' ea rd hj. let same : i' ≡ i = same_Some _ _ (sym ei' ∙ here) in
            let r : Reaches place s f a = reaches p.order place s t f i a g e (subst (λ i. access_of i ≡ Some a) same ea) in
            subst (λ x. IsInMemory place (length s.context) (length f.returns) ((x + j) % addresses)) (sym r.is_at.address_is) (reached_memory place s (length f.returns) (byte_count a.size) j r.where_at g.placed g.is_state.few_frames count r.is_at.good hj);
        writes = λ i' a j ei' ea wr hj. let same : i' ≡ i = same_Some _ _ (sym ei' ∙ here) in
            let r : Reaches place s f a = reaches p.order place s t f i a g e (subst (λ i. access_of i ≡ Some a) same ea) in
            subst (λ x. IsInFrames place (length f.returns) ((x + j) % addresses)) (sym r.is_at.address_is) (reached_frames place s (length f.returns) (byte_count a.size) j r.where_at g.placed g.is_state.few_frames count r.is_at.good hj (r.written wr));
      };
    }

pub flat_follows : FlatFollows
unfolding step_of
flat_follows place p s t f prog iss isp fit e = option_and_then_some _ (insn_at p.list s.top.slot) t e (λ i ei ed. follows place p s t f i (record { fit = fit; is_state = iss; placed = isp }) prog ei ed)

no_returns : (place : Placement) (ws : List StackFrame) (rs : List Return) → ws ≡ [] → FitReturns place ws rs → rs ≡ []
no_returns place ws rs e h = nil_from_length rs (returns_length place ws rs h ∙ ap length e)

pub flat_finishes : FlatFinishes
unfolding finish_of
flat_finishes place p s f v fit e = option_and_then_some _ (insn_at p.list s.top.slot) v e (λ i ei er.
    let h = exit_is s.waiting (number_of_register s R0) i v er in
    let here : insn_at p.list f.slot ≡ Some Exit = ap (insn_at p.list) fit.slot_is ∙ ei ∙ ap Some h.1 in
    let none : f.returns ≡ [] = no_returns place s.waiting f.returns h.0 fit.returns_fit in (
      record { stands = here; outermost = none; result_is = number_stands fit R0 v h.2 },
      λ g st.
          let same : st.insn ≡ Exit = same_Some _ _ (sym st.stands ∙ here) in
          let back : FlatReturn f g = subst (λ i. FlatDoes place p.order i f g) same st.does in
          let bad : 0 ≡ suc (length g.returns) = ap length (sym none ∙ back.returns_are) in
          absurd (omega arith),
    ))
