-- What is between the quotation marks of a basic string, on one line or many, by its pieces.
use Rattle.std.specs.Prelude.{◌≡◌, ℕ, IsTrue, List}
use Rattle.keep_types.specs.declared.leaf.Profile.TheVariants.{Wide}
use Rattle.keep_token.specs.Strings.{Piece, Each, IsMlBasicPiece, takes_all, text_of, value_of}

pub record IsBodyOf (text : List ℕ) (pieces : List Piece) : Type 0 where
  pub spelled : text ≡ text_of pieces
  pub each : Each (IsMlBasicPiece Wide) pieces
  pub whole : IsTrue (takes_all pieces)

abbrev pub IsBody : List ℕ → Type 0
IsBody text = (pieces : List Piece) × IsBodyOf text pieces

-- these bytes are what the pieces of the body give
abbrev pub GivesBody : List ℕ → List ℕ → Type 0
GivesBody text value = (pieces : List Piece) → IsBodyOf text pieces → value ≡ value_of pieces
