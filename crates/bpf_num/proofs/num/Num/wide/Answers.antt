use Rattle.std.proofs.Common.{◌≡◌, refl, sym, ◌∙◌, subst, inl, inr}
use Rattle.bpf_insn.specs.declared.instruction.AluOp.{AluOp}
use Rattle.bpf_insn.specs.declared.instruction.AluOp.TheVariants.{Add, Sub, Mul, Div, SDiv, Mod, SMod, Or, And, Xor}
use Rattle.bpf_num.specs.Operation.{num_binary, num_wide}
use Rattle.bpf_num.proofs.num.Num.wide.Goals as goal

-- an operation that is neither a shift nor a move
plain : (c : goal.After-binary) (v : AluOp) → num_binary v c.args.self c.args.other ≡ num_wide c.args.width v c.args.self c.args.other → c.args.op ≡ v → c.binary.result ≡ num_wide c.args.width c.args.op c.args.self c.args.other
plain c v e is = c.binary.ensures ∙ subst (λ o. num_binary o c.args.self c.args.other ≡ num_wide c.args.width o c.args.self c.args.other) (sym is) e

pub returns-in-Add : goal.returns-in-Add
returns-in-Add c =
    elim c.in-Add.is [
      | inl e ↦ plain c Add refl e
      | inr h1 ↦
          elim h1 [
            | inl e ↦ plain c Sub refl e
            | inr h2 ↦
                elim h2 [
                  | inl e ↦ plain c Mul refl e
                  | inr h3 ↦
                      elim h3 [
                        | inl e ↦ plain c Div refl e
                        | inr h4 ↦
                            elim h4 [
                              | inl e ↦ plain c SDiv refl e
                              | inr h5 ↦
                                  elim h5 [
                                    | inl e ↦ plain c Mod refl e
                                    | inr h6 ↦
                                        elim h6 [
                                          | inl e ↦ plain c SMod refl e
                                          | inr h7 ↦
                                              elim h7 [
                                                | inl e ↦ plain c Or refl e
                                                | inr h8 ↦
                                                    elim h8 [
                                                      | inl e ↦ plain c And refl e
                                                      | inr h9 ↦
                                                          plain c Xor refl h9
                                                    ]
                                              ]
                                        ]
                                  ]
                            ]
                      ]
                ]
          ]
    ]
