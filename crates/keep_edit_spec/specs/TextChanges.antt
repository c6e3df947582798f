-- Changes of one text: bytes of it give place to others. Each is known by the first text, and none overlaps another.
use Rattle.std.specs.Prelude.{◌≡◌, ℕ, ◌+◌, ◌-◌, ◌<◌, ◌≤◌, nat_lt, ◌⊎◌, ⊤, if◌then◌else◌, List, [], ◌∷◌, ◌++◌, length}
use Rattle.std.specs.Prelude.{take, drop}
use Rattle.keep_edit_spec.specs.Changed.{Place}

-- so many bytes from this one on give place to these
pub record TextChange : Type 0 where
  pub at : ℕ
  pub size : ℕ
  pub new : List ℕ

abbrev pub change_at : ℕ → ℕ → List ℕ → TextChange
change_at at size new = record { at = at; size = size; new = new }

abbrev pub place_of_change : TextChange → Place
place_of_change c = record { start = c.at; end = c.at + c.size; new = c.new }

-- The change is that of a place in these bytes, and goes on past it: so many bytes after it go too, and come back.
pub record IsWider (bytes : List ℕ) (p : Place) (c : TextChange) : Type 0 where
  pub rest : ℕ
  pub start : c.at ≡ p.start
  pub end : c.at + c.size ≡ p.end + rest
  pub within : p.end + rest ≤ length bytes
  pub new : c.new ≡ p.new ++ take rest (drop p.end bytes)

-- One ends before the other begins. Where both are at one place, the second comes after the first, which takes nothing.
abbrev pub IsBeside : TextChange → TextChange → Type 0
IsBeside c d = (c.at + c.size ≤ d.at) ⊎ ((d.at < c.at) × (d.at + d.size ≤ c.at))

-- ---- one change

-- where a byte is once that change is made: after what came, if it came there
abbrev pub moved_by : TextChange → ℕ → ℕ
moved_by c at = if nat_lt at c.at then at else (at + length c.new) - c.size

abbrev pub moved : TextChange → TextChange → TextChange
moved c d = record d { at = moved_by c d.at }

-- ---- many changes, in the order of their places

-- how many bytes come, and how many go, by the changes that begin at this byte or before it
abbrev pub come_to : ℕ → List TextChange → ℕ
come_to at [] = 0
come_to at (c ∷ cs) = (if nat_lt at c.at then 0 else length c.new) + come_to at cs

abbrev pub gone_to : ℕ → List TextChange → ℕ
gone_to at [] = 0
gone_to at (c ∷ cs) = (if nat_lt at c.at then 0 else c.size) + gone_to at cs

-- where a byte is once these changes are made, if none takes it
abbrev pub moved_by_all : List TextChange → ℕ → ℕ
moved_by_all cs at = (at + come_to at cs) - gone_to at cs

abbrev pub moved_past : List TextChange → TextChange → TextChange
moved_past cs c = record c { at = moved_by_all cs c.at }

-- with one change more, after those that begin where it does or before it
abbrev pub with_change : List TextChange → TextChange → List TextChange
with_change [] d = d ∷ []
with_change (c ∷ cs) d = if nat_lt d.at c.at then d ∷ c ∷ cs else c ∷ with_change cs d

-- each begins where the one before it ends or later, and none before the byte `from`
abbrev pub Follow : ℕ → List TextChange → Type 0
Follow from [] = ⊤
Follow from (c ∷ cs) = (from ≤ c.at) × Follow (c.at + c.size) cs

-- the text from the byte `from` on, with the changes made
abbrev pub text_with : ℕ → List ℕ → List TextChange → List ℕ
text_with from bytes [] = drop from bytes
text_with from bytes (c ∷ cs) = drop from (take c.at bytes) ++ (c.new ++ text_with (c.at + c.size) bytes cs)
