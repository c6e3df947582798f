-- What the crates above build on, in one place.
pub use Rattle.keep_edit_spec.proofs.Common.Runs.{AllOf, Allowed, Pairs, Rules, SomeOf, all_join, same_path-sound}
pub use Rattle.keep_edit_spec.proofs.Common.Runs.{all_map, kinds_allow, same_part-sound}
pub use Rattle.keep_edit_spec.proofs.Common.BodyEnd.{IsBodyEnd, end_is}
pub use Rattle.keep_edit_spec.proofs.Common.LineLaws.{EndsInKey}
pub use Rattle.keep_edit_spec.proofs.Common.LineStatements.{reading_statements}
pub use Rattle.keep_edit_spec.proofs.Common.SetLaw.{IsAloneAt}
pub use Rattle.keep_edit_spec.proofs.Remove.RemovePlace.{IsComma, IsEdged, IsNested, IsValueAt, same_place}
pub use Rattle.keep_edit_spec.proofs.Common.LineEnds.{IsClosed, ended_ends, ends_at, ends_after, line_quiet, line_some}
pub use Rattle.keep_edit_spec.proofs.Common.LineEnds.{quiet_append, value_closed}
pub use Rattle.keep_edit_spec.proofs.Rename.RenameNumber.{IsKeyRenamed, marks_stated, rename_place_is, rename_placed}
pub use Rattle.keep_edit_spec.proofs.Common.Cuts.{last_part-snoc, without_last-snoc}
pub use Rattle.keep_edit_spec.proofs.Common.Moves.{IsInjectiveOn, mentions_moved, moved}
pub use Rattle.keep_edit_spec.proofs.Rename.RenameInValue.{snoc_of}
pub use Rattle.keep_edit_spec.proofs.Rename.MovedLines.{IsDocumentMoved, moved_numbered}
pub use Rattle.keep_edit_spec.proofs.Rename.RenameNodes.{IsClear, IsNodeRenamed, KeepsSteps, nodes_renamed}
pub use Rattle.keep_edit_spec.proofs.Remove.LineOfValue.{dots_line_of_value, keys_line_of_value, line_numbers}
pub use Rattle.keep_edit_spec.proofs.Remove.LineOfValue.{line_of_value, value_line}
pub use Rattle.keep_edit_spec.proofs.Remove.RemoveLinePlace.{IsLineValue, IsLow, is_high}
pub use Rattle.keep_edit_spec.proofs.Remove.RemovePlaces.{IsPlaced, IsRemoved, removed}
pub use Rattle.keep_edit_spec.proofs.Common.Doubles.{IsMentioned, has_some}
pub use Rattle.keep_edit_spec.proofs.Remove.RemoveSectionPlace.{IsSectionPlaced}
pub use Rattle.keep_edit_spec.proofs.Values.ValuePlace.{IsValueOf, has_of_number, none_of_number, set_place}
pub use Rattle.keep_edit_spec.proofs.Values.ValuePlace.{value_of_number, value_of_path}
pub use Rattle.keep_edit_spec.proofs.Common.ValueThere.{alone_of_has, fact_past, some_cases}
pub use Rattle.keep_edit_spec.proofs.Remove.ElementThere.{begun_alone}
pub use Rattle.keep_edit_spec.proofs.Common.TableThere.{defined_ends}
pub use Rattle.keep_edit_spec.proofs.Common.ValueNumber.{false_unless}
pub use Rattle.keep_edit_spec.proofs.Set.SetIsLawful.{IsSettable, get_is_right, settable}
pub use Rattle.keep_edit_spec.proofs.Set.SetNodes.{IsKindSet, kind_set}
pub use Rattle.keep_edit_spec.proofs.Set.SetValue.{value_set}
pub use Rattle.keep_edit_spec.proofs.Values.LineValue.{IsLineValueChanged, line_value_number, nested_value}
pub use Rattle.keep_edit_spec.proofs.Values.LineValue.{new_line_value_number}
pub use Rattle.keep_edit_spec.proofs.Values.ValueFacts.{integer_at_leaf, leaf_of_integer, no_string, string_at_leaf}
pub use Rattle.keep_edit_spec.proofs.Values.ValueFacts.{string_of_leaf}
pub use Rattle.keep_edit_spec.proofs.Values.LineKeys.{first_is_line_value}
pub use Rattle.keep_edit_spec.proofs.Values.LineValueText.{IsLineValueText, line_value_text}
pub use Rattle.keep_edit_spec.proofs.Remove.RemoveRefusal.{lines_begun, never_begun, no_both}
pub use Rattle.keep_edit_spec.proofs.Common.EntryDepths.{alone_of_bracket}
pub use Rattle.keep_edit_spec.proofs.Insert.ItemThere.{IsItemPath, item_at, never_whole}
pub use Rattle.keep_edit_spec.proofs.Insert.ItemNumbers.{AreNumbered, items_numbered}
pub use Rattle.keep_edit_spec.proofs.Insert.OriginMentioned.{is_origin, origin_mentioned}
pub use Rattle.keep_edit_spec.proofs.Insert.Origins.{IsDottedNode, dotted_ends, dotted_node, mention_with_number}
pub use Rattle.keep_edit_spec.proofs.Insert.Origins.{unsaid_of_none}
pub use Rattle.keep_edit_spec.proofs.Insert.HolderFacts.{no_bracket_element}
pub use Rattle.keep_edit_spec.proofs.Common.FromMarksLines.{path_ends}
pub use Rattle.keep_edit_spec.proofs.EditLaws.{change_put, insert_lawful, remove_lawful, rename_lawful, set_lawful}
pub use Rattle.keep_edit_spec.proofs.Common.Marks.{rules_of_document}
pub use Rattle.keep_edit_spec.proofs.Remove.KeyvalMentions.{mentioned_below, mentions_keyval}
pub use Rattle.keep_edit_spec.proofs.Remove.RemoveWhole.{shared_define}
pub use Rattle.keep_edit_spec.proofs.Remove.TakenIsValue.{taken_entry_is_value}
pub use Rattle.keep_edit_spec.proofs.Values.ValueDepths.{too_deep_at}
pub use Rattle.keep_edit_spec.proofs.Append.AppendAddsStatement.{append_element_adds_statement}
pub use Rattle.keep_edit_spec.proofs.Append.AppendAddsStatement.{append_table_adds_statement}
pub use Rattle.keep_edit_spec.proofs.Append.AppendPlace.{append_place, text_is}
pub use Rattle.keep_edit_spec.proofs.Append.AppendTable.{tables_stated}
pub use Rattle.keep_edit_spec.proofs.Append.HeaderConflict.{LetsPass, element_met, table_met}
pub use Rattle.keep_edit_spec.proofs.Append.HeaderMarks.{define_continues, define_twice, define_unlisted}
pub use Rattle.keep_edit_spec.proofs.Append.HeaderMarks.{dotted_continues, dotted_undefines, dotted_unlisted}
pub use Rattle.keep_edit_spec.proofs.Append.HeaderMarks.{element_again, element_undefines, lets_pass, marks_let}
pub use Rattle.keep_edit_spec.proofs.Append.HeaderMarks.{no_elements, none_counted, none_refuses, past_listed, roles_of}
pub use Rattle.keep_edit_spec.proofs.Append.HeaderMarks.{all_element, through_defines, through_continues}
pub use Rattle.keep_edit_spec.proofs.Append.HeaderMarks.{through_unlisted, value_refuses, value_unlisted}
pub use Rattle.keep_edit_spec.proofs.Common.FromMarksLines.{formed_lines}
pub use Rattle.keep_edit_spec.proofs.EditLaws.{append_element_lawful, append_table_lawful}
pub use Rattle.keep_edit_spec.proofs.Insert.LineBefore.{IsLowPlace, lines_low, new_line_text, new_section}
pub use Rattle.keep_edit_spec.proofs.Insert.LineBefore.{new_section_text}
pub use Rattle.keep_edit_spec.proofs.Insert.ItemPlaces.{IsItemLaw, item_law}
pub use Rattle.keep_edit_spec.proofs.Insert.BracePlaces.{IsPutAfter}
pub use Rattle.keep_edit_spec.proofs.Insert.KeyvalPlaces.{IsInlineLaw, dots_placed, inline_placed}
pub use Rattle.keep_edit_spec.proofs.Insert.BodyStatements.{count_few}
pub use Rattle.keep_edit_spec.proofs.Insert.InsertPlaces.{EndsBefore, IsThroughHeader, IsThroughPlaced}
pub use Rattle.keep_edit_spec.proofs.Insert.InsertPlaces.{element_placed, header_ends}
pub use Rattle.keep_edit_spec.proofs.Insert.InsertPlaces.{header_placed, headed_within, holder_prefix, plain_rest}
pub use Rattle.keep_edit_spec.proofs.Insert.InsertPlaces.{root_ends, root_placed, through_header, through_placed}
pub use Rattle.keep_edit_spec.proofs.Insert.InsertNested.{braced_nested, item_nested}
pub use Rattle.keep_edit_spec.proofs.Insert.PutIsValue.{put_item_is_value, put_keyval_is_value}
pub use Rattle.keep_edit_spec.proofs.Insert.InsertAddsLine.{insert_adds_line}
pub use Rattle.keep_edit_spec.proofs.Insert.InsertAddsKeys.{insert_adds_keys}
pub use Rattle.keep_edit_spec.proofs.Insert.InsertAddsDots.{insert_adds_dots}
pub use Rattle.keep_edit_spec.proofs.Insert.DotsPassed.{IsNamed, PassesTo, passed_are_named, passed_to_holder}
pub use Rattle.keep_edit_spec.proofs.Insert.InsertAddsValue.{insert_adds_value}
pub use Rattle.keep_edit_spec.proofs.Remove.RemoveEntry.{all_prefix, past_stops}
pub use Rattle.keep_edit_spec.proofs.Remove.RemovePlace.{preserved_is, run_ends}
pub use Rattle.keep_edit_spec.proofs.Remove.RemoveTakesLine.{remove_takes_line}
pub use Rattle.keep_edit_spec.proofs.Remove.RemoveTakesDots.{remove_takes_dots}
pub use Rattle.keep_edit_spec.proofs.Remove.DotsLeft.{new_key_is, tables_dotted, tables_named}
pub use Rattle.keep_edit_spec.proofs.Remove.KeyvalPaths.{IsKept, dots_kept, in_keyval, kept_of, value_kept}
pub use Rattle.keep_edit_spec.proofs.Remove.RemoveTakesKeys.{remove_takes_keys}
pub use Rattle.keep_edit_spec.proofs.Remove.RemoveTakesValue.{remove_takes_value}
pub use Rattle.keep_edit_spec.proofs.Insert.InsertDottedPlace.{IsBaseAt, IsDottedPlaced, dotted_origin, dotted_placed}
pub use Rattle.keep_edit_spec.proofs.Common.Texts.{EachIs, entry-text, joined_gap-text, past_ws-text, put-place_of}
pub use Rattle.keep_edit_spec.proofs.Common.Texts.{put_item-is, put_named-is, removal-is, text_of-append}
pub use Rattle.keep_edit_spec.proofs.Touched.FitLaws.{touched_lines_are_lines}
pub use Rattle.keep_edit_spec.proofs.Touched.TouchedCuts.{IsCut, touched_in_new_cut}
pub use Rattle.keep_edit_spec.proofs.Lists.TextChanges.{all_with, follow_with, length_with, one_of_all, rest_of_all}
pub use Rattle.keep_edit_spec.proofs.Lists.LinesAhead.{run_goes_on_ahead}
pub use Rattle.keep_edit_spec.proofs.Lists.LinesBefore.{run_goes_on_before}
pub use Rattle.keep_edit_spec.proofs.Lists.LinesInPlace.{run_goes_on_in_place}
pub use Rattle.keep_edit_spec.proofs.Lists.BehindHeaders.{run_goes_on_behind}
pub use Rattle.keep_edit_spec.proofs.Lists.MadeChanges.{change_lawful}
pub use Rattle.keep_edit_spec.proofs.Lists.ChangeOrder.{beside_back, one_in_place, put_in_place, with_both}
pub use Rattle.keep_edit_spec.proofs.Lists.RunLaws.{none_is_run, run_goes_on}
pub use Rattle.keep_edit_spec.proofs.Lists.LineKinds.{as_kind, kind_is, line_kind}
pub use Rattle.keep_edit_spec.proofs.Lists.RunLists.{each_of_others, lines_apart, run_goes_on_again, run_is_known}
pub use Rattle.keep_edit_spec.proofs.Lists.RenameLists.{run_goes_on_renamed}
pub use Rattle.keep_edit_spec.proofs.Lists.ExchangedChanges.{starts_there}
pub use Rattle.keep_edit_spec.proofs.Lists.ExchangedEdits.{each_line_more, each_more, lines_more}
pub use Rattle.keep_edit_spec.proofs.Lists.InsertLists.{run_goes_on_inserted}
pub use Rattle.keep_edit_spec.proofs.Lists.LineKeys.{run_goes_on_renamed_there}
pub use Rattle.keep_edit_spec.proofs.Rename.KeyTexts.{one_key}
pub use Rattle.keep_edit_spec.proofs.Lists.ItemRunLaws.{item_run_goes_on, none_is_item_run}
pub use Rattle.keep_edit_spec.proofs.Lists.EntryEditRuns.{entry_lawful, run_goes_on_by_entry}
pub use Rattle.keep_edit_spec.proofs.Lists.ElementRunLaws.{element_run_goes_on, element_run_goes_on_by_entry}
pub use Rattle.keep_edit_spec.proofs.Lists.ElementRunLaws.{element_run_goes_on_without, run_is_element_run}
pub use Rattle.keep_edit_spec.proofs.Lists.EntryEdits.{still_makes_set}
pub use Rattle.keep_edit_spec.proofs.Lists.EntryChanges.{entry_change_is_set}
pub use Rattle.keep_edit_spec.proofs.Lists.SetBytes.{set_bytes}
pub use Rattle.keep_edit_spec.proofs.Lists.SetTwice.{sets_again}
pub use Rattle.keep_edit_spec.proofs.Lists.FilledRunLaws.{filled_run_goes_on_element, filled_run_goes_on_key}
pub use Rattle.keep_edit_spec.proofs.Lists.FilledRunLaws.{filled_run_goes_on_table, none_is_filled_run}
pub use Rattle.keep_edit_spec.proofs.Lists.HeaderTaken.{element_ends}
pub use Rattle.keep_edit_spec.proofs.Lists.HeaderRunLaws.{first_with, header_run_goes_on, none_is_header_run}
pub use Rattle.keep_edit_spec.proofs.Insert.KeysAtEnd.{first_is}
pub use Rattle.keep_edit_spec.proofs.Lists.PathsBefore.{apart_before, element_before, no_number_before, stays_below}
pub use Rattle.keep_edit_spec.proofs.Lists.MoreItems.{keys_same, prefixes_alike}
pub use Rattle.keep_edit_spec.proofs.Lists.NextItem.{not_before, not_empty}
pub use Rattle.keep_edit_spec.proofs.Lists.SomeBytes.{rename_has_bytes, set_has_bytes}
pub use Rattle.keep_edit_spec.proofs.Lists.RemovedPlaces.{line_has_bytes}
pub use Rattle.keep_edit_spec.proofs.Common.DoneAtValue.{EachOf}
pub use Rattle.keep_edit_spec.proofs.Common.Runs.{same_path-refl}
pub use Rattle.keep_edit_spec.proofs.Common.ValueThere.{IsSome}
pub use Rattle.keep_edit_spec.proofs.Insert.ItemThere.{IsGranted, granted}
pub use Rattle.keep_edit_spec.proofs.Insert.LinesNamed.{some_among}
pub use Rattle.keep_edit_spec.proofs.Insert.NewPath.{IsNewPath, new_path}
pub use Rattle.keep_edit_spec.proofs.Lists.Places.{place_is}
pub use Rattle.keep_edit_spec.proofs.Remove.RemoveLinePlace.{IsCleared, IsOwnLine, cleared_lines, head_line}
pub use Rattle.keep_edit_spec.proofs.Remove.RemoveLinePlace.{lines_split, page_line, rest_valid, tail_lines, without}
pub use Rattle.keep_edit_spec.proofs.Remove.RemoveLinePlace.{head_text, line_value, own_line}
pub use Rattle.keep_edit_spec.proofs.Remove.RemoveSectionPlace.{none_some}
pub use Rattle.keep_edit_spec.proofs.Lists.ElementRunLaws.{element_run_goes_on, element_run_goes_on_by_entry}
pub use Rattle.keep_edit_spec.proofs.Lists.ElementRunLaws.{element_run_goes_on_without, run_is_element_run}
pub use Rattle.keep_edit_spec.proofs.Lists.BehindCounts.{counts_behind}
pub use Rattle.keep_edit_spec.proofs.Lists.BehindLine.{below_more, left_below}
pub use Rattle.keep_edit_spec.proofs.Lists.BehindHeaders.{follows_now, made_now}
pub use Rattle.keep_edit_spec.proofs.Lists.EndBelow.{end_goes_on_below}
pub use Rattle.keep_edit_spec.proofs.Lists.EndEdits.{end_comes_after_entry, end_comes_later}
pub use Rattle.keep_edit_spec.proofs.Lists.EndElements.{end_comes_after_element}
pub use Rattle.keep_edit_spec.proofs.Lists.EndHeaders.{end_goes_on}
pub use Rattle.keep_edit_spec.proofs.Lists.EndJoined.{document_joined, ends_joined, ends_split, fine_after, first_after}
pub use Rattle.keep_edit_spec.proofs.Lists.NewlineStays.{FirstKnown, first_behind, first_known, first_line_within}
pub use Rattle.keep_edit_spec.proofs.Lists.NewlineStays.{newline_stays, plain_by, stays_first}
pub use Rattle.keep_edit_spec.proofs.Lists.EndTexts.{IsLonger, end_editable, end_text, with_ends}
pub use Rattle.keep_edit_spec.proofs.Lists.MoreKeyRuns.{run_goes_on_inside, run_is_open}
pub use Rattle.keep_edit_spec.proofs.Lists.RemoveUndoesInsert.{remove_undoes_insert}
