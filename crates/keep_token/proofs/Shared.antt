-- What the crates above build on, in one place: what is found at a place is a leaf, and a leaf is found again.
pub use Rattle.keep_token.proofs.GapLaws.{gap_cases, white, line, comment, nothing, ws_found, ws_again, newline_again}
pub use Rattle.keep_token.proofs.GapLaws.{comment_again, Found, Gaps, prefix_len-positive, tested}
pub use Rattle.keep_token.proofs.KeyLaws.{key_found, key_again}
pub use Rattle.keep_token.proofs.ScalarLaws.{scalar_found, scalar_again, a_basic, a_literal, a_ml_basic, a_ml_literal}
pub use Rattle.keep_token.proofs.ScalarLaws.{a_word, scalar_kind}
pub use Rattle.keep_token.proofs.ProfileLaws.{leaf_wider, means_wider}
pub use Rattle.keep_token.proofs.EncodedStrings.{key_is_leaf, key_means}
pub use Rattle.keep_token.proofs.Ends.{some_injective}
pub use Rattle.keep_token.proofs.GapLeaves.{all_pass}
pub use Rattle.keep_token.proofs.NumberLaws.{integer_text_from}
pub use Rattle.keep_token.proofs.StringBodies.{basic_body, literal_value, ml_literal_value, one_ascii, start_cut}
pub use Rattle.keep_token.proofs.StringManyLines.{takes_all_rest}
pub use Rattle.keep_token.proofs.StringMeans.{means_one}
pub use Rattle.keep_token.proofs.StringUtf8.{cut_one}
pub use Rattle.keep_token.proofs.WordLaws.{word_first, word_len_again}
