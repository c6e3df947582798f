-- What the crates above build on, in one place.
pub use Rattle.keep_syntax.proofs.AgainLaws.{entries_begin, value_begins}
pub use Rattle.keep_syntax.proofs.CountLaws.{AreSome, BeginsChar, document_some, leaves_count}
pub use Rattle.keep_syntax_store.proofs.Shared.{all_back}
pub use Rattle.keep_syntax.proofs.DeepestLaws.{all_at}
pub use Rattle.keep_syntax.proofs.DepthLaws.{values_within}
pub use Rattle.keep_syntax.proofs.DocumentLaws.{one_document}
pub use Rattle.keep_syntax.proofs.GapCodeLaws.{first-drop}
pub use Rattle.keep_syntax.proofs.KeyLaws.{key_first_solid, name_begins, part_begins}
pub use Rattle.keep_syntax.proofs.LawLaws.{tokens_few}
pub use Rattle.keep_syntax.proofs.LineNumberingLaws.{after_lines-at, after_lines-statements, after_lines-values}
pub use Rattle.keep_syntax.proofs.LineNumberingLaws.{over_ended}
pub use Rattle.keep_syntax.proofs.LineStartLaws.{HaveBytes, all_from, before_step, from_step, line_low, line_of}
pub use Rattle.keep_syntax.proofs.LineStartLaws.{line_step, next_high, next_of, next_step, none_before, same_begin}
pub use Rattle.keep_syntax.proofs.GrowthLaws.{width-append}
pub use Rattle.keep_syntax.proofs.ProfileTest.{allowed_value, value_allowed}
pub use Rattle.keep_syntax.proofs.ReplacedTextLaws.{replaced_text}
pub use Rattle.keep_syntax.proofs.SpaceLaws.{comment_class, gap_blank, is_solid, newline_class, place_of, solid_no_ws}
pub use Rattle.keep_syntax.proofs.SpaceLaws.{space_class, text_of-append}
pub use Rattle.keep_syntax.proofs.SplitLaws.{bytes_of, text_length}
pub use Rattle.keep_syntax.proofs.ValueLaws.{value_first_solid}
pub use Rattle.keep_syntax.proofs.WholeLaws.{one_value}
pub use Rattle.keep_syntax.proofs.WiderLaws.{reads_value_wider}
pub use Rattle.keep_syntax.proofs.SameLaws.{same_syntax, same_text}
