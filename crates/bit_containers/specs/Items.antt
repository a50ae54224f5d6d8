-- What a contract sees of `Items`.
use Rattle.std.specs.Prelude.{Bool, List}
use Rattle.bit_addressing.specs.declared.store.BitStore as store
use Rattle.bit_addressing.specs.declared.order.BitOrder as order
use Rattle.bit_slice.specs.Iter.{rest_of}
use Rattle.bit_containers.specs.declared.vec.items.Items.{Items}

-- the bits that are left
abbrev pub items_rest : {X Y : Type 0} {W : store.Ghosts X} {P : order.Ghosts Y} → Items X Y W P → List Bool
items_rest i = rest_of i.inner
