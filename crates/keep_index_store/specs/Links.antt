-- The parent links of the nodes, as they are stored.
use Rattle.std.specs.Prelude.{◌-◌, ◌<◌, ◌≤◌, ◌^◌, List, [], ◌∷◌, ◌++◌, map, max, All}
use Rattle.keep_index_store.specs.declared.links.ParentLink.{ParentLink}
use Rattle.keep_index_store.specs.declared.links.PackedLink.{PackedLink}

-- the link that a packed one holds
abbrev pub link_of : PackedLink → ParentLink
link_of h = record { parent = h.parent; number = h.number }

-- the packed links, then the others
abbrev pub links_in : List PackedLink → List ParentLink → List ParentLink
links_in packed unpacked = map link_of packed ++ unpacked

-- both numbers can be greater by one in 32 bits
abbrev pub IsSmall : ParentLink → Type 0
IsSmall h = (h.parent < 2 ^ 32 - 1) × (h.number < 2 ^ 32 - 1)

-- both numbers are stored in 32 bits
abbrev pub FitsIn32Bits : ParentLink → Type 0
FitsIn32Bits h = (h.parent < 2 ^ 32) × (h.number < 2 ^ 32)

-- the first of the links, if there is one, has a number that does not fit into 32 bits
abbrev pub StartsLarge : List ParentLink → Type 0
StartsLarge [] = Unit {0}
StartsLarge (h ∷ hs) = 2 ^ 32 ≤ max h.parent h.number

-- the packed links fit, and the first of the others does not
pub record AreStored (packed : List PackedLink) (unpacked : List ParentLink) : Type 0 where
  pub fit : All (λ h. FitsIn32Bits (link_of h)) packed
  pub large : StartsLarge unpacked
