-- What holds at every moment while commands are done.
use Rattle.std.proofs.Common.{List, [], ◌∷◌}
use Rattle.model.specs.Tree.{Tree}
use Rattle.model.specs.Model.{Network, Command, step, end}
use Rattle.model.specs.Promise.{Throughout}

pub throughout_now : (Q : Network → Type 0) (t : Tree) (s : Network) (ds : List Command) → Throughout Q t s ds → Q s
unfolding Throughout
throughout_now Q t s [] h = h
throughout_now Q t s (d ∷ ds) h = h.0

pub throughout_end : (Q : Network → Type 0) (t : Tree) (s : Network) (ds : List Command) → Throughout Q t s ds → Q (end t s ds)
unfolding Throughout end
throughout_end Q t s [] h = h
throughout_end Q t s (d ∷ ds) h = throughout_end Q t (step t s d) ds h.1

pub throughout_weaker :
    (Q R : Network → Type 0) → ((u : Network) → Q u → R u) → (t : Tree) (s : Network) (ds : List Command) → Throughout Q t s ds → Throughout R t s ds
unfolding Throughout
throughout_weaker Q R f t s [] h = f s h
throughout_weaker Q R f t s (d ∷ ds) h = (f s h.0, throughout_weaker Q R f t (step t s d) ds h.1)
