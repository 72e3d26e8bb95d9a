-- What the refusals of filters say, B1 to B10, by their numbers and without the place. There is no number 0.
use Rattle.std.specs.Prelude.{◌∷◌, ℕ, List, [], codes}

abbrev pub filter_texts : List (List ℕ)
filter_texts =
    [] ∷
    codes "a filter has from 1 to 4,096 instructions" ∷
    codes "no instruction of classic BPF has this code" ∷
    codes "the scratch memory has the cells M[0] to M[15] alone" ∷
    codes "it divides by the constant 0, or shifts by a constant of 32 or more" ∷
    codes "it leads past the last instruction, or back past the first" ∷
    codes "a seccomp filter loads aligned words of its 64 bytes alone, by constant offsets, and has no mod and no jump back" ∷
    codes "it loads one of Linux's extensions, which a packet doesn't hold" ∷
    codes "the bytes end inside of an instruction: each has 8" ∷
    codes "out of memory" ∷
    codes "the program that was made isn't shown to keep the filter's answers" ∷
    []
