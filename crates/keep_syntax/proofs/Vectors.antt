-- Documents and values whose trees are written out: their text, depth, tokens, statements, key parts and values compute
-- to what an independent model answers.
--
-- Each document or value is written out as a tree; the comment above it has its text. The first row of each shows that
-- the tree is one of the grammar, within the limit, with that text. Of a document, the rows after it compute one list
-- each: tokens, statements, key parts and values, and the depth. They are `refl`, so there is no induction and no
-- lemma. A definition that the code follows, but that says something else than was meant, shows here if one of these
-- documents touches it.
--
-- Each row is a theorem of its own.
use Rattle.std.proofs.Common.{◌≡◌, true, false, [], ◌∷◌, Some, None, refl, inl, inr, arith}
use Rattle.keep_types.specs.declared.leaf.Leaf.TheVariants as leaf
use Rattle.keep_types.specs.declared.leaf.Profile.TheVariants.{Strict, Wide}
use Rattle.keep_token.specs.Strings.{Plain, Break}
use Rattle.keep_token.proofs.Shared.{integer_text_from}
use Rattle.keep_types.specs.declared.syntax.Owner.TheVariants as owner
use Rattle.keep_types.specs.declared.syntax.StatementKind.TheVariants.{KeyVal, Header, Element}
use Rattle.keep_types.specs.declared.syntax.Start.{Start}
use Rattle.keep_syntax.specs.Tree.{scalar, array, inline, none, entry, Value, blank, keyval, header, element, Document}
use Rattle.keep_syntax.specs.Tree.{depth}
use Rattle.keep_syntax.specs.Numbered.{span, values, value_values, entries_parts, nested_start, statements, parts}
use Rattle.keep_syntax.specs.Numbered.{tokens}
use Rattle.keep_syntax.specs.Grammar.{Reads, ReadsValue}
use Rattle.keep_syntax.specs.Limit.{standard_depth}

-- b''
abbrev doc0 : Document
doc0 = record {
  bom = false;
  ended = ([]);
  last = record { before = ([]); content = blank; after = ([]); comment = None };
}

doc0_read : Reads Strict standard_depth ([]) doc0
doc0_read =
    record {
      valid = record { ended = tt; last = record { before = tt; content = tt; after = refl; comment = tt } };
      spelled = refl;
      shallow = omega arith;
    }

doc0_tokens : tokens doc0 ≡ record { leaf = leaf.End; at = 0; text = ([]) } ∷ []
doc0_tokens = refl

doc0_statements : statements doc0 ≡ []
doc0_statements = refl

doc0_parts : parts doc0 ≡ []
doc0_parts = refl

doc0_values : values doc0 ≡ []
doc0_values = refl

doc0_depth : depth doc0 ≡ 0
doc0_depth = refl

-- b'# c'
abbrev doc1 : Document
doc1 = record {
  bom = false;
  ended = ([]);
  last = record {
    before = ([]);
    content = blank;
    after = ([]);
    comment = (Some (record { leaf = leaf.Comment; text = (0x23 ∷ 0x20 ∷ 0x63 ∷ []) }));
  };
}

doc1_read : Reads Strict standard_depth (0x23 ∷ 0x20 ∷ 0x63 ∷ []) doc1
doc1_read =
    record {
      valid = record {
        ended = tt;
        last = record {
          before = tt;
          content = tt;
          after = refl;
          comment = (refl, ((0x23 ∷ []), (0x20 ∷ 0x63 ∷ []), refl, refl, refl));
        };
      };
      spelled = refl;
      shallow = omega arith;
    }

doc1_tokens : tokens doc1 ≡ record { leaf = leaf.Comment; at = 0; text = (0x23 ∷ 0x20 ∷ 0x63 ∷ []) }
    ∷ record { leaf = leaf.End; at = 3; text = ([]) } ∷ []
doc1_tokens = refl

doc1_statements : statements doc1 ≡ []
doc1_statements = refl

doc1_parts : parts doc1 ≡ []
doc1_parts = refl

doc1_values : values doc1 ≡ []
doc1_values = refl

doc1_depth : depth doc1 ≡ 0
doc1_depth = refl

-- b' \t# c\r\n'
abbrev doc2 : Document
doc2 = record {
  bom = false;
  ended = (record {
    line = record {
      before = (record { leaf = leaf.Ws; text = (0x20 ∷ 0x09 ∷ []) } ∷ []);
      content = blank;
      after = ([]);
      comment = (Some (record { leaf = leaf.Comment; text = (0x23 ∷ 0x20 ∷ 0x63 ∷ []) }));
    };
    newline = record { leaf = leaf.Newline; text = (0x0D ∷ 0x0A ∷ []) };
  } ∷ []);
  last = record { before = ([]); content = blank; after = ([]); comment = None };
}

doc2_read : Reads Strict standard_depth (0x20 ∷ 0x09 ∷ 0x23 ∷ 0x20 ∷ 0x63 ∷ 0x0D ∷ 0x0A ∷ []) doc2
doc2_read =
    record {
      valid = record {
        ended = (
          record {
            line = record {
              before = (refl, (omega arith, refl));
              content = tt;
              after = refl;
              comment = (refl, ((0x23 ∷ []), (0x20 ∷ 0x63 ∷ []), refl, refl, refl));
            };
            kind = refl;
            newline = (inr refl);
          },
          tt,
        );
        last = record { before = tt; content = tt; after = refl; comment = tt };
      };
      spelled = refl;
      shallow = omega arith;
    }

doc2_tokens : tokens doc2 ≡ record { leaf = leaf.Ws; at = 0; text = (0x20 ∷ 0x09 ∷ []) }
    ∷ record { leaf = leaf.Comment; at = 2; text = (0x23 ∷ 0x20 ∷ 0x63 ∷ []) }
    ∷ record { leaf = leaf.Newline; at = 5; text = (0x0D ∷ 0x0A ∷ []) }
    ∷ record { leaf = leaf.End; at = 7; text = ([]) } ∷ []
doc2_tokens = refl

doc2_statements : statements doc2 ≡ []
doc2_statements = refl

doc2_parts : parts doc2 ≡ []
doc2_parts = refl

doc2_values : values doc2 ≡ []
doc2_values = refl

doc2_depth : depth doc2 ≡ 0
doc2_depth = refl

-- b'a=1'
abbrev doc3 : Document
doc3 = record {
  bom = false;
  ended = ([]);
  last = record {
    before = ([]);
    content =
        (keyval (record {
          key = record { first = record { leaf = leaf.BareKey; text = (0x61 ∷ []) }; more = ([]) };
          before = ([]);
          after = ([]);
        }) (record { body = scalar (record { leaf = leaf.Integer; text = (0x31 ∷ []) }); nested = none }));
    after = ([]);
    comment = None;
  };
}

doc3_read : Reads Strict standard_depth (0x61 ∷ 0x3D ∷ 0x31 ∷ []) doc3
doc3_read =
    record {
      valid = record {
        ended = tt;
        last = record {
          before = tt;
          content = (
            record { key = record { first = (refl, (omega arith, refl)); more = tt }; before = tt; after = tt },
            record { body = (refl, (integer_text_from (0x31 ∷ []) refl, record { sfits = omega arith })); nested = tt },
          );
          after = tt;
          comment = tt;
        };
      };
      spelled = refl;
      shallow = omega arith;
    }

doc3_tokens : tokens doc3 ≡ record { leaf = leaf.BareKey; at = 0; text = (0x61 ∷ []) }
    ∷ record { leaf = leaf.Equals; at = 1; text = (0x3D ∷ []) }
    ∷ record { leaf = leaf.Integer; at = 2; text = (0x31 ∷ []) } ∷ record { leaf = leaf.End; at = 3; text = ([]) } ∷ []
doc3_tokens = refl

doc3_statements : statements doc3
    ≡ record { kind = KeyVal; span = span 0 3; line = span 0 3; first_key = 0; keys = 1; value = Some 0 } ∷ []
doc3_statements = refl

doc3_parts : parts doc3 ≡ record { leaf = leaf.BareKey; span = span 0 1 } ∷ []
doc3_parts = refl

doc3_values : values doc3 ≡ record {
  leaf = leaf.Integer;
  span = span 2 3;
  whole = span 0 3;
  owner = owner.Line 0;
  depth = 0;
  first_key = 0;
  keys = 1;
  comma_before = None;
  comma_after = None;
} ∷ []
doc3_values = refl

doc3_depth : depth doc3 ≡ 0
doc3_depth = refl

-- b'1.2 = 3'
abbrev doc4 : Document
doc4 = record {
  bom = false;
  ended = ([]);
  last = record {
    before = ([]);
    content =
        (keyval (record {
          key = record {
            first = record { leaf = leaf.BareKey; text = (0x31 ∷ []) };
            more = (record { before = ([]); after = ([]); part = record { leaf = leaf.BareKey; text = (0x32 ∷ []) } }
                ∷ []);
          };
          before = (record { leaf = leaf.Ws; text = (0x20 ∷ []) } ∷ []);
          after = (record { leaf = leaf.Ws; text = (0x20 ∷ []) } ∷ []);
        }) (record { body = scalar (record { leaf = leaf.Integer; text = (0x33 ∷ []) }); nested = none }));
    after = ([]);
    comment = None;
  };
}

doc4_read : Reads Strict standard_depth (0x31 ∷ 0x2E ∷ 0x32 ∷ 0x20 ∷ 0x3D ∷ 0x20 ∷ 0x33 ∷ []) doc4
doc4_read =
    record {
      valid = record {
        ended = tt;
        last = record {
          before = tt;
          content = (
            record {
              key = record {
                first = (refl, (omega arith, refl));
                more = (record { before = tt; after = tt; part = (refl, (omega arith, refl)) }, tt);
              };
              before = (refl, (omega arith, refl));
              after = (refl, (omega arith, refl));
            },
            record { body = (refl, (integer_text_from (0x33 ∷ []) refl, record { sfits = omega arith })); nested = tt },
          );
          after = tt;
          comment = tt;
        };
      };
      spelled = refl;
      shallow = omega arith;
    }

doc4_tokens : tokens doc4 ≡ record { leaf = leaf.BareKey; at = 0; text = (0x31 ∷ []) }
    ∷ record { leaf = leaf.Dot; at = 1; text = (0x2E ∷ []) }
    ∷ record { leaf = leaf.BareKey; at = 2; text = (0x32 ∷ []) } ∷ record { leaf = leaf.Ws; at = 3; text = (0x20 ∷ []) }
    ∷ record { leaf = leaf.Equals; at = 4; text = (0x3D ∷ []) } ∷ record { leaf = leaf.Ws; at = 5; text = (0x20 ∷ []) }
    ∷ record { leaf = leaf.Integer; at = 6; text = (0x33 ∷ []) } ∷ record { leaf = leaf.End; at = 7; text = ([]) } ∷ []
doc4_tokens = refl

doc4_statements : statements doc4
    ≡ record { kind = KeyVal; span = span 0 7; line = span 0 7; first_key = 0; keys = 2; value = Some 0 } ∷ []
doc4_statements = refl

doc4_parts : parts doc4 ≡ record { leaf = leaf.BareKey; span = span 0 1 }
    ∷ record { leaf = leaf.BareKey; span = span 2 3 } ∷ []
doc4_parts = refl

doc4_values : values doc4 ≡ record {
  leaf = leaf.Integer;
  span = span 6 7;
  whole = span 0 7;
  owner = owner.Line 0;
  depth = 0;
  first_key = 0;
  keys = 2;
  comma_before = None;
  comma_after = None;
} ∷ []
doc4_values = refl

doc4_depth : depth doc4 ≡ 0
doc4_depth = refl

-- b'"" = \'\''
abbrev doc5 : Document
doc5 = record {
  bom = false;
  ended = ([]);
  last = record {
    before = ([]);
    content =
        (keyval (record {
          key = record { first = record { leaf = leaf.Basic; text = (0x22 ∷ 0x22 ∷ []) }; more = ([]) };
          before = (record { leaf = leaf.Ws; text = (0x20 ∷ []) } ∷ []);
          after = (record { leaf = leaf.Ws; text = (0x20 ∷ []) } ∷ []);
        }) (record { body = scalar (record { leaf = leaf.Literal; text = (0x27 ∷ 0x27 ∷ []) }); nested = none }));
    after = ([]);
    comment = None;
  };
}

doc5_read : Reads Strict standard_depth (0x22 ∷ 0x22 ∷ 0x20 ∷ 0x3D ∷ 0x20 ∷ 0x27 ∷ 0x27 ∷ []) doc5
doc5_read =
    record {
      valid = record {
        ended = tt;
        last = record {
          before = tt;
          content = (
            record {
              key = record { first = (refl, (([]), record { spelled = refl; each = tt })); more = tt };
              before = (refl, (omega arith, refl));
              after = (refl, (omega arith, refl));
            },
            record { body = (refl, (([]), record { spelled = refl; each = tt })); nested = tt },
          );
          after = tt;
          comment = tt;
        };
      };
      spelled = refl;
      shallow = omega arith;
    }

doc5_tokens : tokens doc5 ≡ record { leaf = leaf.Basic; at = 0; text = (0x22 ∷ 0x22 ∷ []) }
    ∷ record { leaf = leaf.Ws; at = 2; text = (0x20 ∷ []) } ∷ record { leaf = leaf.Equals; at = 3; text = (0x3D ∷ []) }
    ∷ record { leaf = leaf.Ws; at = 4; text = (0x20 ∷ []) }
    ∷ record { leaf = leaf.Literal; at = 5; text = (0x27 ∷ 0x27 ∷ []) }
    ∷ record { leaf = leaf.End; at = 7; text = ([]) } ∷ []
doc5_tokens = refl

doc5_statements : statements doc5
    ≡ record { kind = KeyVal; span = span 0 7; line = span 0 7; first_key = 0; keys = 1; value = Some 0 } ∷ []
doc5_statements = refl

doc5_parts : parts doc5 ≡ record { leaf = leaf.Basic; span = span 0 2 } ∷ []
doc5_parts = refl

doc5_values : values doc5 ≡ record {
  leaf = leaf.Literal;
  span = span 5 7;
  whole = span 0 7;
  owner = owner.Line 0;
  depth = 0;
  first_key = 0;
  keys = 1;
  comma_before = None;
  comma_after = None;
} ∷ []
doc5_values = refl

doc5_depth : depth doc5 ≡ 0
doc5_depth = refl

-- b'a . \'b\' . "c" = 1'
abbrev doc6 : Document
doc6 = record {
  bom = false;
  ended = ([]);
  last = record {
    before = ([]);
    content =
        (keyval (record {
          key = record {
            first = record { leaf = leaf.BareKey; text = (0x61 ∷ []) };
            more = (record {
              before = (record { leaf = leaf.Ws; text = (0x20 ∷ []) } ∷ []);
              after = (record { leaf = leaf.Ws; text = (0x20 ∷ []) } ∷ []);
              part = record { leaf = leaf.Literal; text = (0x27 ∷ 0x62 ∷ 0x27 ∷ []) };
            } ∷ record {
              before =
                  (record { leaf = leaf.Ws; text = (0x20 ∷ []) } ∷ []);
              after = (record { leaf = leaf.Ws; text = (0x20 ∷ []) } ∷ []);
              part = record { leaf = leaf.Basic; text = (0x22 ∷ 0x63 ∷ 0x22 ∷ []) };
            } ∷ []);
          };
          before = (record { leaf = leaf.Ws; text = (0x20 ∷ []) } ∷ []);
          after = (record { leaf = leaf.Ws; text = (0x20 ∷ []) } ∷ []);
        }) (record { body = scalar (record { leaf = leaf.Integer; text = (0x31 ∷ []) }); nested = none }));
    after = ([]);
    comment = None;
  };
}

doc6_read : Reads Strict standard_depth
    (0x61 ∷ 0x20 ∷ 0x2E ∷ 0x20 ∷ 0x27 ∷ 0x62 ∷ 0x27 ∷ 0x20 ∷ 0x2E ∷ 0x20 ∷ 0x22 ∷ 0x63 ∷ 0x22 ∷ 0x20 ∷ 0x3D ∷ 0x20
    ∷ 0x31 ∷ []) doc6
doc6_read =
    record {
      valid = record {
        ended = tt;
        last = record {
          before = tt;
          content = (
            record {
              key = record {
                first = (refl, (omega arith, refl));
                more = (
                  record {
                    before = (refl, (omega arith, refl));
                    after = (refl, (omega arith, refl));
                    part = (refl, ((Plain 0x62 ∷ []), record { spelled = refl; each = (refl, tt) }));
                  },
                  (
                    record {
                      before = (refl, (omega arith, refl));
                      after = (refl, (omega arith, refl));
                      part = (refl, ((Plain 0x63 ∷ []), record { spelled = refl; each = (refl, tt) }));
                    },
                    tt,
                  ),
                );
              };
              before = (refl, (omega arith, refl));
              after = (refl, (omega arith, refl));
            },
            record { body = (refl, (integer_text_from (0x31 ∷ []) refl, record { sfits = omega arith })); nested = tt },
          );
          after = tt;
          comment = tt;
        };
      };
      spelled = refl;
      shallow = omega arith;
    }

doc6_tokens : tokens doc6 ≡ record { leaf = leaf.BareKey; at = 0; text = (0x61 ∷ []) }
    ∷ record { leaf = leaf.Ws; at = 1; text = (0x20 ∷ []) } ∷ record { leaf = leaf.Dot; at = 2; text = (0x2E ∷ []) }
    ∷ record { leaf = leaf.Ws; at = 3; text = (0x20 ∷ []) }
    ∷ record { leaf = leaf.Literal; at = 4; text = (0x27 ∷ 0x62 ∷ 0x27 ∷ []) }
    ∷ record { leaf = leaf.Ws; at = 7; text = (0x20 ∷ []) } ∷ record { leaf = leaf.Dot; at = 8; text = (0x2E ∷ []) }
    ∷ record { leaf = leaf.Ws; at = 9; text = (0x20 ∷ []) }
    ∷ record { leaf = leaf.Basic; at = 10; text = (0x22 ∷ 0x63 ∷ 0x22 ∷ []) }
    ∷ record { leaf = leaf.Ws; at = 13; text = (0x20 ∷ []) }
    ∷ record { leaf = leaf.Equals; at = 14; text = (0x3D ∷ []) }
    ∷ record { leaf = leaf.Ws; at = 15; text = (0x20 ∷ []) }
    ∷ record { leaf = leaf.Integer; at = 16; text = (0x31 ∷ []) } ∷ record { leaf = leaf.End; at = 17; text = ([]) }
    ∷ []
doc6_tokens = refl

doc6_statements : statements doc6
    ≡ record { kind = KeyVal; span = span 0 17; line = span 0 17; first_key = 0; keys = 3; value = Some 0 } ∷ []
doc6_statements = refl

doc6_parts : parts doc6 ≡ record { leaf = leaf.BareKey; span = span 0 1 }
    ∷ record { leaf = leaf.Literal; span = span 4 7 } ∷ record { leaf = leaf.Basic; span = span 10 13 } ∷ []
doc6_parts = refl

doc6_values : values doc6 ≡ record {
  leaf = leaf.Integer;
  span = span 16 17;
  whole = span 0 17;
  owner = owner.Line 0;
  depth = 0;
  first_key = 0;
  keys = 3;
  comma_before = None;
  comma_after = None;
} ∷ []
doc6_values = refl

doc6_depth : depth doc6 ≡ 0
doc6_depth = refl

-- b"a = [1, [2, 'x'],]"
abbrev doc7 : Document
doc7 = record {
  bom = false;
  ended = ([]);
  last = record {
    before = ([]);
    content =
        (keyval (record {
          key = record { first = record { leaf = leaf.BareKey; text = (0x61 ∷ []) }; more = ([]) };
          before = (record { leaf = leaf.Ws; text = (0x20 ∷ []) } ∷ []);
          after = (record { leaf = leaf.Ws; text = (0x20 ∷ []) } ∷ []);
        }) (record {
          body =
              array ([]);
          nested =
              (entry None (scalar (record { leaf = leaf.Integer; text = (0x31 ∷ []) })) none ([])
              (Some (record { leaf = leaf.Ws; text = (0x20 ∷ []) } ∷ []))
              (entry None (array ([])) (entry None (scalar (record { leaf = leaf.Integer; text = (0x32 ∷ []) })) none
              ([]) (Some (record { leaf = leaf.Ws; text = (0x20 ∷ []) } ∷ []))
              (entry None (scalar (record { leaf = leaf.Literal; text = (0x27 ∷ 0x78 ∷ 0x27 ∷ []) })) none ([]) None
              none)) ([]) (Some ([])) none));
        }));
    after = ([]);
    comment = None;
  };
}

doc7_read : Reads Strict standard_depth
    (0x61 ∷ 0x20 ∷ 0x3D ∷ 0x20 ∷ 0x5B ∷ 0x31 ∷ 0x2C ∷ 0x20 ∷ 0x5B ∷ 0x32 ∷ 0x2C ∷ 0x20 ∷ 0x27 ∷ 0x78 ∷ 0x27 ∷ 0x5D
    ∷ 0x2C ∷ 0x5D ∷ []) doc7
doc7_read =
    record {
      valid = record {
        ended = tt;
        last = record {
          before = tt;
          content = (
            record {
              key = record { first = (refl, (omega arith, refl)); more = tt };
              before = (refl, (omega arith, refl));
              after = (refl, (omega arith, refl));
            },
            record {
              body = tt;
              nested = (
                tt,
                (refl, (integer_text_from (0x31 ∷ []) refl, record { sfits = omega arith })),
                tt,
                tt,
                (refl, (omega arith, refl), tt, tt),
                (
                  tt,
                  tt,
                  (
                    tt,
                    (refl, (integer_text_from (0x32 ∷ []) refl, record { sfits = omega arith })),
                    tt,
                    tt,
                    (refl, (omega arith, refl), tt, tt),
                    (tt, (refl, ((Plain 0x78 ∷ []), record { spelled = refl; each = (refl, tt) })), tt, tt, tt, tt),
                  ),
                  tt,
                  (tt, tt),
                  tt,
                ),
              );
            },
          );
          after = tt;
          comment = tt;
        };
      };
      spelled = refl;
      shallow = omega arith;
    }

doc7_tokens : tokens doc7 ≡ record { leaf = leaf.BareKey; at = 0; text = (0x61 ∷ []) }
    ∷ record { leaf = leaf.Ws; at = 1; text = (0x20 ∷ []) } ∷ record { leaf = leaf.Equals; at = 2; text = (0x3D ∷ []) }
    ∷ record { leaf = leaf.Ws; at = 3; text = (0x20 ∷ []) }
    ∷ record { leaf = leaf.ArrayOpen; at = 4; text = (0x5B ∷ []) }
    ∷ record { leaf = leaf.Integer; at = 5; text = (0x31 ∷ []) }
    ∷ record { leaf = leaf.Comma; at = 6; text = (0x2C ∷ []) } ∷ record { leaf = leaf.Ws; at = 7; text = (0x20 ∷ []) }
    ∷ record { leaf = leaf.ArrayOpen; at = 8; text = (0x5B ∷ []) }
    ∷ record { leaf = leaf.Integer; at = 9; text = (0x32 ∷ []) }
    ∷ record { leaf = leaf.Comma; at = 10; text = (0x2C ∷ []) } ∷ record { leaf = leaf.Ws; at = 11; text = (0x20 ∷ []) }
    ∷ record { leaf = leaf.Literal; at = 12; text = (0x27 ∷ 0x78 ∷ 0x27 ∷ []) }
    ∷ record { leaf = leaf.ArrayClose; at = 15; text = (0x5D ∷ []) }
    ∷ record { leaf = leaf.Comma; at = 16; text = (0x2C ∷ []) }
    ∷ record { leaf = leaf.ArrayClose; at = 17; text = (0x5D ∷ []) } ∷ record { leaf = leaf.End; at = 18; text = ([]) }
    ∷ []
doc7_tokens = refl

doc7_statements : statements doc7
    ≡ record { kind = KeyVal; span = span 0 18; line = span 0 18; first_key = 0; keys = 1; value = Some 0 } ∷ []
doc7_statements = refl

doc7_parts : parts doc7 ≡ record { leaf = leaf.BareKey; span = span 0 1 } ∷ []
doc7_parts = refl

doc7_values : values doc7 ≡ record {
  leaf = leaf.ArrayOpen;
  span = span 4 18;
  whole = span 0 18;
  owner = owner.Line 0;
  depth = 0;
  first_key = 0;
  keys = 1;
  comma_before = None;
  comma_after = None;
} ∷ record {
  leaf =
      leaf.Integer;
  span = span 5 6;
  whole = span 5 6;
  owner = owner.Item 0;
  depth = 1;
  first_key = 1;
  keys = 0;
  comma_before = None;
  comma_after = Some 6;
} ∷ record {
  leaf =
      leaf.ArrayOpen;
  span = span 8 16;
  whole = span 8 16;
  owner = owner.Item 0;
  depth = 1;
  first_key = 1;
  keys = 0;
  comma_before = Some 6;
  comma_after = Some 16;
} ∷ record {
  leaf =
      leaf.Integer;
  span = span 9 10;
  whole = span 9 10;
  owner = owner.Item 2;
  depth = 2;
  first_key = 1;
  keys = 0;
  comma_before = None;
  comma_after = Some 10;
} ∷ record {
  leaf =
      leaf.Literal;
  span = span 12 15;
  whole = span 12 15;
  owner = owner.Item 2;
  depth = 2;
  first_key = 1;
  keys = 0;
  comma_before = Some 10;
  comma_after = None;
} ∷ []
doc7_values = refl

doc7_depth : depth doc7 ≡ 2
doc7_depth = refl

-- b'a = {b.c = 1, b.d = {}}'
abbrev doc8 : Document
doc8 = record {
  bom = false;
  ended = ([]);
  last = record {
    before = ([]);
    content =
        (keyval (record {
          key = record { first = record { leaf = leaf.BareKey; text = (0x61 ∷ []) }; more = ([]) };
          before = (record { leaf = leaf.Ws; text = (0x20 ∷ []) } ∷ []);
          after = (record { leaf = leaf.Ws; text = (0x20 ∷ []) } ∷ []);
        }) (record {
          body =
              inline ([]);
          nested =
              (entry (Some (record {
                key = record {
                  first = record { leaf = leaf.BareKey; text = (0x62 ∷ []) };
                  more = (record {
                    before = ([]);
                    after = ([]);
                    part = record { leaf = leaf.BareKey; text = (0x63 ∷ []) };
                  } ∷ []);
                };
                before = (record { leaf = leaf.Ws; text = (0x20 ∷ []) } ∷ []);
                after = (record { leaf = leaf.Ws; text = (0x20 ∷ []) } ∷ []);
              })) (scalar (record { leaf = leaf.Integer; text = (0x31 ∷ []) })) none ([])
              (Some (record { leaf = leaf.Ws; text = (0x20 ∷ []) } ∷ []))
              (entry (Some (record {
                key = record {
                  first = record { leaf = leaf.BareKey; text = (0x62 ∷ []) };
                  more = (record {
                    before = ([]);
                    after = ([]);
                    part = record { leaf = leaf.BareKey; text = (0x64 ∷ []) };
                  } ∷ []);
                };
                before = (record { leaf = leaf.Ws; text = (0x20 ∷ []) } ∷ []);
                after = (record { leaf = leaf.Ws; text = (0x20 ∷ []) } ∷ []);
              })) (inline ([])) none ([]) None none));
        }));
    after = ([]);
    comment = None;
  };
}

doc8_read : Reads Strict standard_depth
    (0x61 ∷ 0x20 ∷ 0x3D ∷ 0x20 ∷ 0x7B ∷ 0x62 ∷ 0x2E ∷ 0x63 ∷ 0x20 ∷ 0x3D ∷ 0x20 ∷ 0x31 ∷ 0x2C ∷ 0x20 ∷ 0x62 ∷ 0x2E
    ∷ 0x64 ∷ 0x20 ∷ 0x3D ∷ 0x20 ∷ 0x7B ∷ 0x7D ∷ 0x7D ∷ []) doc8
doc8_read =
    record {
      valid = record {
        ended = tt;
        last = record {
          before = tt;
          content = (
            record {
              key = record { first = (refl, (omega arith, refl)); more = tt };
              before = (refl, (omega arith, refl));
              after = (refl, (omega arith, refl));
            },
            record {
              body = tt;
              nested = (
                record {
                  key = record {
                    first = (refl, (omega arith, refl));
                    more = (record { before = tt; after = tt; part = (refl, (omega arith, refl)) }, tt);
                  };
                  before = (refl, (omega arith, refl));
                  after = (refl, (omega arith, refl));
                },
                (refl, (integer_text_from (0x31 ∷ []) refl, record { sfits = omega arith })),
                tt,
                tt,
                (refl, (omega arith, refl)),
                (
                  record {
                    key = record {
                      first = (refl, (omega arith, refl));
                      more = (record { before = tt; after = tt; part = (refl, (omega arith, refl)) }, tt);
                    };
                    before = (refl, (omega arith, refl));
                    after = (refl, (omega arith, refl));
                  },
                  tt,
                  tt,
                  tt,
                  tt,
                  tt,
                ),
              );
            },
          );
          after = tt;
          comment = tt;
        };
      };
      spelled = refl;
      shallow = omega arith;
    }

doc8_tokens : tokens doc8 ≡ record { leaf = leaf.BareKey; at = 0; text = (0x61 ∷ []) }
    ∷ record { leaf = leaf.Ws; at = 1; text = (0x20 ∷ []) } ∷ record { leaf = leaf.Equals; at = 2; text = (0x3D ∷ []) }
    ∷ record { leaf = leaf.Ws; at = 3; text = (0x20 ∷ []) }
    ∷ record { leaf = leaf.InlineOpen; at = 4; text = (0x7B ∷ []) }
    ∷ record { leaf = leaf.BareKey; at = 5; text = (0x62 ∷ []) }
    ∷ record { leaf = leaf.Dot; at = 6; text = (0x2E ∷ []) }
    ∷ record { leaf = leaf.BareKey; at = 7; text = (0x63 ∷ []) } ∷ record { leaf = leaf.Ws; at = 8; text = (0x20 ∷ []) }
    ∷ record { leaf = leaf.Equals; at = 9; text = (0x3D ∷ []) } ∷ record { leaf = leaf.Ws; at = 10; text = (0x20 ∷ []) }
    ∷ record { leaf = leaf.Integer; at = 11; text = (0x31 ∷ []) }
    ∷ record { leaf = leaf.Comma; at = 12; text = (0x2C ∷ []) } ∷ record { leaf = leaf.Ws; at = 13; text = (0x20 ∷ []) }
    ∷ record { leaf = leaf.BareKey; at = 14; text = (0x62 ∷ []) }
    ∷ record { leaf = leaf.Dot; at = 15; text = (0x2E ∷ []) }
    ∷ record { leaf = leaf.BareKey; at = 16; text = (0x64 ∷ []) }
    ∷ record { leaf = leaf.Ws; at = 17; text = (0x20 ∷ []) }
    ∷ record { leaf = leaf.Equals; at = 18; text = (0x3D ∷ []) }
    ∷ record { leaf = leaf.Ws; at = 19; text = (0x20 ∷ []) }
    ∷ record { leaf = leaf.InlineOpen; at = 20; text = (0x7B ∷ []) }
    ∷ record { leaf = leaf.InlineClose; at = 21; text = (0x7D ∷ []) }
    ∷ record { leaf = leaf.InlineClose; at = 22; text = (0x7D ∷ []) } ∷ record { leaf = leaf.End; at = 23; text = ([]) }
    ∷ []
doc8_tokens = refl

doc8_statements : statements doc8
    ≡ record { kind = KeyVal; span = span 0 23; line = span 0 23; first_key = 0; keys = 1; value = Some 0 } ∷ []
doc8_statements = refl

doc8_parts : parts doc8 ≡ record { leaf = leaf.BareKey; span = span 0 1 }
    ∷ record { leaf = leaf.BareKey; span = span 5 6 } ∷ record { leaf = leaf.BareKey; span = span 7 8 }
    ∷ record { leaf = leaf.BareKey; span = span 14 15 } ∷ record { leaf = leaf.BareKey; span = span 16 17 } ∷ []
doc8_parts = refl

doc8_values : values doc8 ≡ record {
  leaf = leaf.InlineOpen;
  span = span 4 23;
  whole = span 0 23;
  owner = owner.Line 0;
  depth = 0;
  first_key = 0;
  keys = 1;
  comma_before = None;
  comma_after = None;
} ∷ record {
  leaf =
      leaf.Integer;
  span = span 11 12;
  whole = span 5 12;
  owner = owner.Inline 0;
  depth = 1;
  first_key = 1;
  keys = 2;
  comma_before = None;
  comma_after = Some 12;
} ∷ record {
  leaf =
      leaf.InlineOpen;
  span = span 20 22;
  whole = span 14 22;
  owner = owner.Inline 0;
  depth = 1;
  first_key = 3;
  keys = 2;
  comma_before = Some 12;
  comma_after = None;
} ∷ []
doc8_values = refl

doc8_depth : depth doc8 ≡ 2
doc8_depth = refl

-- b'[a]\n[b]\n[a.c]\n'
abbrev doc9 : Document
doc9 = record {
  bom = false;
  ended = (record {
    line = record {
      before = ([]);
      content = (header ([]) (record { first = record { leaf = leaf.BareKey; text = (0x61 ∷ []) }; more = ([]) }) ([]));
      after = ([]);
      comment = None;
    };
    newline = record { leaf = leaf.Newline; text = (0x0A ∷ []) };
  } ∷ record {
    line =
        record {
          before = ([]);
          content =
              (header ([]) (record { first = record { leaf = leaf.BareKey; text = (0x62 ∷ []) }; more = ([]) }) ([]));
          after = ([]);
          comment = None;
        };
    newline = record { leaf = leaf.Newline; text = (0x0A ∷ []) };
  } ∷ record {
    line =
        record {
          before = ([]);
          content =
              (header ([]) (record {
                first = record { leaf = leaf.BareKey; text = (0x61 ∷ []) };
                more = (record {
                  before = ([]);
                  after = ([]);
                  part = record { leaf = leaf.BareKey; text = (0x63 ∷ []) };
                } ∷ []);
              }) ([]));
          after = ([]);
          comment = None;
        };
    newline = record { leaf = leaf.Newline; text = (0x0A ∷ []) };
  } ∷ []);
  last = record { before = ([]); content = blank; after = ([]); comment = None };
}

doc9_read : Reads Strict standard_depth
    (0x5B ∷ 0x61 ∷ 0x5D ∷ 0x0A ∷ 0x5B ∷ 0x62 ∷ 0x5D ∷ 0x0A ∷ 0x5B ∷ 0x61 ∷ 0x2E ∷ 0x63 ∷ 0x5D ∷ 0x0A ∷ []) doc9
doc9_read =
    record {
      valid = record {
        ended = (
          record {
            line = record {
              before = tt;
              content = (tt, record { first = (refl, (omega arith, refl)); more = tt }, tt);
              after = tt;
              comment = tt;
            };
            kind = refl;
            newline = (inl refl);
          },
          (
            record {
              line = record {
                before = tt;
                content = (tt, record { first = (refl, (omega arith, refl)); more = tt }, tt);
                after = tt;
                comment = tt;
              };
              kind = refl;
              newline = (inl refl);
            },
            (
              record {
                line = record {
                  before = tt;
                  content = (
                    tt,
                    record {
                      first = (refl, (omega arith, refl));
                      more = (record { before = tt; after = tt; part = (refl, (omega arith, refl)) }, tt);
                    },
                    tt,
                  );
                  after = tt;
                  comment = tt;
                };
                kind = refl;
                newline = (inl refl);
              },
              tt,
            ),
          ),
        );
        last = record { before = tt; content = tt; after = refl; comment = tt };
      };
      spelled = refl;
      shallow = omega arith;
    }

doc9_tokens : tokens doc9 ≡ record { leaf = leaf.HeadOpen; at = 0; text = (0x5B ∷ []) }
    ∷ record { leaf = leaf.BareKey; at = 1; text = (0x61 ∷ []) }
    ∷ record { leaf = leaf.HeadClose; at = 2; text = (0x5D ∷ []) }
    ∷ record { leaf = leaf.Newline; at = 3; text = (0x0A ∷ []) }
    ∷ record { leaf = leaf.HeadOpen; at = 4; text = (0x5B ∷ []) }
    ∷ record { leaf = leaf.BareKey; at = 5; text = (0x62 ∷ []) }
    ∷ record { leaf = leaf.HeadClose; at = 6; text = (0x5D ∷ []) }
    ∷ record { leaf = leaf.Newline; at = 7; text = (0x0A ∷ []) }
    ∷ record { leaf = leaf.HeadOpen; at = 8; text = (0x5B ∷ []) }
    ∷ record { leaf = leaf.BareKey; at = 9; text = (0x61 ∷ []) }
    ∷ record { leaf = leaf.Dot; at = 10; text = (0x2E ∷ []) }
    ∷ record { leaf = leaf.BareKey; at = 11; text = (0x63 ∷ []) }
    ∷ record { leaf = leaf.HeadClose; at = 12; text = (0x5D ∷ []) }
    ∷ record { leaf = leaf.Newline; at = 13; text = (0x0A ∷ []) } ∷ record { leaf = leaf.End; at = 14; text = ([]) }
    ∷ []
doc9_tokens = refl

doc9_statements : statements doc9
    ≡ record { kind = Header; span = span 0 3; line = span 0 4; first_key = 0; keys = 1; value = None }
    ∷ record { kind = Header; span = span 4 7; line = span 4 8; first_key = 1; keys = 1; value = None }
    ∷ record { kind = Header; span = span 8 13; line = span 8 14; first_key = 2; keys = 2; value = None } ∷ []
doc9_statements = refl

doc9_parts : parts doc9 ≡ record { leaf = leaf.BareKey; span = span 1 2 }
    ∷ record { leaf = leaf.BareKey; span = span 5 6 } ∷ record { leaf = leaf.BareKey; span = span 9 10 }
    ∷ record { leaf = leaf.BareKey; span = span 11 12 } ∷ []
doc9_parts = refl

doc9_values : values doc9 ≡ []
doc9_values = refl

doc9_depth : depth doc9 ≡ 0
doc9_depth = refl

-- b'[[a]]\n[[a.b]]\n[[a]]\n[[a.b]]\n'
abbrev doc10 : Document
doc10 = record {
  bom = false;
  ended = (record {
    line = record {
      before = ([]);
      content =
          (element ([]) (record { first = record { leaf = leaf.BareKey; text = (0x61 ∷ []) }; more = ([]) }) ([]));
      after = ([]);
      comment = None;
    };
    newline = record { leaf = leaf.Newline; text = (0x0A ∷ []) };
  } ∷ record {
    line =
        record {
          before = ([]);
          content =
              (element ([]) (record {
                first = record { leaf = leaf.BareKey; text = (0x61 ∷ []) };
                more = (record {
                  before = ([]);
                  after = ([]);
                  part = record { leaf = leaf.BareKey; text = (0x62 ∷ []) };
                } ∷ []);
              }) ([]));
          after = ([]);
          comment = None;
        };
    newline = record { leaf = leaf.Newline; text = (0x0A ∷ []) };
  } ∷ record {
    line =
        record {
          before = ([]);
          content =
              (element ([]) (record { first = record { leaf = leaf.BareKey; text = (0x61 ∷ []) }; more = ([]) }) ([]));
          after = ([]);
          comment = None;
        };
    newline = record { leaf = leaf.Newline; text = (0x0A ∷ []) };
  } ∷ record {
    line =
        record {
          before = ([]);
          content =
              (element ([]) (record {
                first = record { leaf = leaf.BareKey; text = (0x61 ∷ []) };
                more = (record {
                  before = ([]);
                  after = ([]);
                  part = record { leaf = leaf.BareKey; text = (0x62 ∷ []) };
                } ∷ []);
              }) ([]));
          after = ([]);
          comment = None;
        };
    newline = record { leaf = leaf.Newline; text = (0x0A ∷ []) };
  } ∷ []);
  last = record { before = ([]); content = blank; after = ([]); comment = None };
}

doc10_read : Reads Strict standard_depth
    (0x5B ∷ 0x5B ∷ 0x61 ∷ 0x5D ∷ 0x5D ∷ 0x0A ∷ 0x5B ∷ 0x5B ∷ 0x61 ∷ 0x2E ∷ 0x62 ∷ 0x5D ∷ 0x5D ∷ 0x0A ∷ 0x5B ∷ 0x5B
    ∷ 0x61 ∷ 0x5D ∷ 0x5D ∷ 0x0A ∷ 0x5B ∷ 0x5B ∷ 0x61 ∷ 0x2E ∷ 0x62 ∷ 0x5D ∷ 0x5D ∷ 0x0A ∷ []) doc10
doc10_read =
    record {
      valid = record {
        ended = (
          record {
            line = record {
              before = tt;
              content = (tt, record { first = (refl, (omega arith, refl)); more = tt }, tt);
              after = tt;
              comment = tt;
            };
            kind = refl;
            newline = (inl refl);
          },
          (
            record {
              line = record {
                before = tt;
                content = (
                  tt,
                  record {
                    first = (refl, (omega arith, refl));
                    more = (record { before = tt; after = tt; part = (refl, (omega arith, refl)) }, tt);
                  },
                  tt,
                );
                after = tt;
                comment = tt;
              };
              kind = refl;
              newline = (inl refl);
            },
            (
              record {
                line = record {
                  before = tt;
                  content = (tt, record { first = (refl, (omega arith, refl)); more = tt }, tt);
                  after = tt;
                  comment = tt;
                };
                kind = refl;
                newline = (inl refl);
              },
              (
                record {
                  line = record {
                    before = tt;
                    content = (
                      tt,
                      record {
                        first = (refl, (omega arith, refl));
                        more = (record { before = tt; after = tt; part = (refl, (omega arith, refl)) }, tt);
                      },
                      tt,
                    );
                    after = tt;
                    comment = tt;
                  };
                  kind = refl;
                  newline = (inl refl);
                },
                tt,
              ),
            ),
          ),
        );
        last = record { before = tt; content = tt; after = refl; comment = tt };
      };
      spelled = refl;
      shallow = omega arith;
    }

doc10_tokens : tokens doc10 ≡ record { leaf = leaf.ElemOpen; at = 0; text = (0x5B ∷ 0x5B ∷ []) }
    ∷ record { leaf = leaf.BareKey; at = 2; text = (0x61 ∷ []) }
    ∷ record { leaf = leaf.ElemClose; at = 3; text = (0x5D ∷ 0x5D ∷ []) }
    ∷ record { leaf = leaf.Newline; at = 5; text = (0x0A ∷ []) }
    ∷ record { leaf = leaf.ElemOpen; at = 6; text = (0x5B ∷ 0x5B ∷ []) }
    ∷ record { leaf = leaf.BareKey; at = 8; text = (0x61 ∷ []) }
    ∷ record { leaf = leaf.Dot; at = 9; text = (0x2E ∷ []) }
    ∷ record { leaf = leaf.BareKey; at = 10; text = (0x62 ∷ []) }
    ∷ record { leaf = leaf.ElemClose; at = 11; text = (0x5D ∷ 0x5D ∷ []) }
    ∷ record { leaf = leaf.Newline; at = 13; text = (0x0A ∷ []) }
    ∷ record { leaf = leaf.ElemOpen; at = 14; text = (0x5B ∷ 0x5B ∷ []) }
    ∷ record { leaf = leaf.BareKey; at = 16; text = (0x61 ∷ []) }
    ∷ record { leaf = leaf.ElemClose; at = 17; text = (0x5D ∷ 0x5D ∷ []) }
    ∷ record { leaf = leaf.Newline; at = 19; text = (0x0A ∷ []) }
    ∷ record { leaf = leaf.ElemOpen; at = 20; text = (0x5B ∷ 0x5B ∷ []) }
    ∷ record { leaf = leaf.BareKey; at = 22; text = (0x61 ∷ []) }
    ∷ record { leaf = leaf.Dot; at = 23; text = (0x2E ∷ []) }
    ∷ record { leaf = leaf.BareKey; at = 24; text = (0x62 ∷ []) }
    ∷ record { leaf = leaf.ElemClose; at = 25; text = (0x5D ∷ 0x5D ∷ []) }
    ∷ record { leaf = leaf.Newline; at = 27; text = (0x0A ∷ []) } ∷ record { leaf = leaf.End; at = 28; text = ([]) }
    ∷ []
doc10_tokens = refl

doc10_statements : statements doc10
    ≡ record { kind = Element; span = span 0 5; line = span 0 6; first_key = 0; keys = 1; value = None }
    ∷ record { kind = Element; span = span 6 13; line = span 6 14; first_key = 1; keys = 2; value = None }
    ∷ record { kind = Element; span = span 14 19; line = span 14 20; first_key = 3; keys = 1; value = None }
    ∷ record { kind = Element; span = span 20 27; line = span 20 28; first_key = 4; keys = 2; value = None } ∷ []
doc10_statements = refl

doc10_parts : parts doc10 ≡ record { leaf = leaf.BareKey; span = span 2 3 }
    ∷ record { leaf = leaf.BareKey; span = span 8 9 } ∷ record { leaf = leaf.BareKey; span = span 10 11 }
    ∷ record { leaf = leaf.BareKey; span = span 16 17 } ∷ record { leaf = leaf.BareKey; span = span 22 23 }
    ∷ record { leaf = leaf.BareKey; span = span 24 25 } ∷ []
doc10_parts = refl

doc10_values : values doc10 ≡ []
doc10_values = refl

doc10_depth : depth doc10 ≡ 0
doc10_depth = refl

-- b'\xef\xbb\xbf[ t . u ] # c\n\n \nx.y = 1\r\n'
abbrev doc11 : Document
doc11 = record {
  bom = true;
  ended = (record {
    line = record {
      before = ([]);
      content =
          (header (record { leaf = leaf.Ws; text = (0x20 ∷ []) } ∷ [])
          (record {
            first = record { leaf = leaf.BareKey; text = (0x74 ∷ []) };
            more = (record {
              before = (record { leaf = leaf.Ws; text = (0x20 ∷ []) } ∷ []);
              after = (record { leaf = leaf.Ws; text = (0x20 ∷ []) } ∷ []);
              part = record { leaf = leaf.BareKey; text = (0x75 ∷ []) };
            } ∷ []);
          }) (record { leaf = leaf.Ws; text = (0x20 ∷ []) } ∷ []));
      after = (record { leaf = leaf.Ws; text = (0x20 ∷ []) } ∷ []);
      comment = (Some (record { leaf = leaf.Comment; text = (0x23 ∷ 0x20 ∷ 0x63 ∷ []) }));
    };
    newline = record { leaf = leaf.Newline; text = (0x0A ∷ []) };
  } ∷ record {
    line =
        record { before = ([]); content = blank; after = ([]); comment = None };
    newline = record { leaf = leaf.Newline; text = (0x0A ∷ []) };
  } ∷ record {
    line =
        record {
          before = (record { leaf = leaf.Ws; text = (0x20 ∷ []) } ∷ []);
          content = blank;
          after = ([]);
          comment = None;
        };
    newline = record { leaf = leaf.Newline; text = (0x0A ∷ []) };
  } ∷ record {
    line =
        record {
          before = ([]);
          content =
              (keyval (record {
                key = record {
                  first = record { leaf = leaf.BareKey; text = (0x78 ∷ []) };
                  more = (record {
                    before = ([]);
                    after = ([]);
                    part = record { leaf = leaf.BareKey; text = (0x79 ∷ []) };
                  } ∷ []);
                };
                before = (record { leaf = leaf.Ws; text = (0x20 ∷ []) } ∷ []);
                after = (record { leaf = leaf.Ws; text = (0x20 ∷ []) } ∷ []);
              }) (record { body = scalar (record { leaf = leaf.Integer; text = (0x31 ∷ []) }); nested = none }));
          after = ([]);
          comment = None;
        };
    newline = record { leaf = leaf.Newline; text = (0x0D ∷ 0x0A ∷ []) };
  } ∷ []);
  last = record { before = ([]); content = blank; after = ([]); comment = None };
}

doc11_read : Reads Strict standard_depth
    (0xEF ∷ 0xBB ∷ 0xBF ∷ 0x5B ∷ 0x20 ∷ 0x74 ∷ 0x20 ∷ 0x2E ∷ 0x20 ∷ 0x75 ∷ 0x20 ∷ 0x5D ∷ 0x20 ∷ 0x23 ∷ 0x20 ∷ 0x63
    ∷ 0x0A ∷ 0x0A ∷ 0x20 ∷ 0x0A ∷ 0x78 ∷ 0x2E ∷ 0x79 ∷ 0x20 ∷ 0x3D ∷ 0x20 ∷ 0x31 ∷ 0x0D ∷ 0x0A ∷ []) doc11
doc11_read =
    record {
      valid = record {
        ended = (
          record {
            line = record {
              before = tt;
              content = (
                (refl, (omega arith, refl)),
                record {
                  first = (refl, (omega arith, refl));
                  more = (
                    record {
                      before = (refl, (omega arith, refl));
                      after = (refl, (omega arith, refl));
                      part = (refl, (omega arith, refl));
                    },
                    tt,
                  );
                },
                (refl, (omega arith, refl)),
              );
              after = (refl, (omega arith, refl));
              comment = (refl, ((0x23 ∷ []), (0x20 ∷ 0x63 ∷ []), refl, refl, refl));
            };
            kind = refl;
            newline = (inl refl);
          },
          (
            record {
              line = record { before = tt; content = tt; after = refl; comment = tt };
              kind = refl;
              newline = (inl refl);
            },
            (
              record {
                line = record { before = (refl, (omega arith, refl)); content = tt; after = refl; comment = tt };
                kind = refl;
                newline = (inl refl);
              },
              (
                record {
                  line = record {
                    before = tt;
                    content = (
                      record {
                        key = record {
                          first = (refl, (omega arith, refl));
                          more = (record { before = tt; after = tt; part = (refl, (omega arith, refl)) }, tt);
                        };
                        before = (refl, (omega arith, refl));
                        after = (refl, (omega arith, refl));
                      },
                      record {
                        body = (refl, (integer_text_from (0x31 ∷ []) refl, record { sfits = omega arith }));
                        nested = tt;
                      },
                    );
                    after = tt;
                    comment = tt;
                  };
                  kind = refl;
                  newline = (inr refl);
                },
                tt,
              ),
            ),
          ),
        );
        last = record { before = tt; content = tt; after = refl; comment = tt };
      };
      spelled = refl;
      shallow = omega arith;
    }

doc11_tokens : tokens doc11 ≡ record { leaf = leaf.Bom; at = 0; text = (0xEF ∷ 0xBB ∷ 0xBF ∷ []) }
    ∷ record { leaf = leaf.HeadOpen; at = 3; text = (0x5B ∷ []) }
    ∷ record { leaf = leaf.Ws; at = 4; text = (0x20 ∷ []) } ∷ record { leaf = leaf.BareKey; at = 5; text = (0x74 ∷ []) }
    ∷ record { leaf = leaf.Ws; at = 6; text = (0x20 ∷ []) } ∷ record { leaf = leaf.Dot; at = 7; text = (0x2E ∷ []) }
    ∷ record { leaf = leaf.Ws; at = 8; text = (0x20 ∷ []) } ∷ record { leaf = leaf.BareKey; at = 9; text = (0x75 ∷ []) }
    ∷ record { leaf = leaf.Ws; at = 10; text = (0x20 ∷ []) }
    ∷ record { leaf = leaf.HeadClose; at = 11; text = (0x5D ∷ []) }
    ∷ record { leaf = leaf.Ws; at = 12; text = (0x20 ∷ []) }
    ∷ record { leaf = leaf.Comment; at = 13; text = (0x23 ∷ 0x20 ∷ 0x63 ∷ []) }
    ∷ record { leaf = leaf.Newline; at = 16; text = (0x0A ∷ []) }
    ∷ record { leaf = leaf.Newline; at = 17; text = (0x0A ∷ []) }
    ∷ record { leaf = leaf.Ws; at = 18; text = (0x20 ∷ []) }
    ∷ record { leaf = leaf.Newline; at = 19; text = (0x0A ∷ []) }
    ∷ record { leaf = leaf.BareKey; at = 20; text = (0x78 ∷ []) }
    ∷ record { leaf = leaf.Dot; at = 21; text = (0x2E ∷ []) }
    ∷ record { leaf = leaf.BareKey; at = 22; text = (0x79 ∷ []) }
    ∷ record { leaf = leaf.Ws; at = 23; text = (0x20 ∷ []) }
    ∷ record { leaf = leaf.Equals; at = 24; text = (0x3D ∷ []) }
    ∷ record { leaf = leaf.Ws; at = 25; text = (0x20 ∷ []) }
    ∷ record { leaf = leaf.Integer; at = 26; text = (0x31 ∷ []) }
    ∷ record { leaf = leaf.Newline; at = 27; text = (0x0D ∷ 0x0A ∷ []) }
    ∷ record { leaf = leaf.End; at = 29; text = ([]) } ∷ []
doc11_tokens = refl

doc11_statements : statements doc11
    ≡ record { kind = Header; span = span 3 12; line = span 3 17; first_key = 0; keys = 2; value = None }
    ∷ record { kind = KeyVal; span = span 20 27; line = span 20 29; first_key = 2; keys = 2; value = Some 0 } ∷ []
doc11_statements = refl

doc11_parts : parts doc11 ≡ record { leaf = leaf.BareKey; span = span 5 6 }
    ∷ record { leaf = leaf.BareKey; span = span 9 10 } ∷ record { leaf = leaf.BareKey; span = span 20 21 }
    ∷ record { leaf = leaf.BareKey; span = span 22 23 } ∷ []
doc11_parts = refl

doc11_values : values doc11 ≡ record {
  leaf = leaf.Integer;
  span = span 26 27;
  whole = span 20 27;
  owner = owner.Line 1;
  depth = 0;
  first_key = 2;
  keys = 2;
  comma_before = None;
  comma_after = None;
} ∷ []
doc11_values = refl

doc11_depth : depth doc11 ≡ 0
doc11_depth = refl

-- b'a = [ # one\n 1 , # two\n\t{ b = 2 , c.d=[ ] } ]\nz = true'
abbrev doc12 : Document
doc12 = record {
  bom = false;
  ended = (record {
    line = record {
      before = ([]);
      content =
          (keyval (record {
            key = record { first = record { leaf = leaf.BareKey; text = (0x61 ∷ []) }; more = ([]) };
            before = (record { leaf = leaf.Ws; text = (0x20 ∷ []) } ∷ []);
            after = (record { leaf = leaf.Ws; text = (0x20 ∷ []) } ∷ []);
          }) (record {
            body =
                array (record { leaf = leaf.Ws; text = (0x20 ∷ []) }
                ∷ record { leaf = leaf.Comment; text = (0x23 ∷ 0x20 ∷ 0x6F ∷ 0x6E ∷ 0x65 ∷ []) }
                ∷ record { leaf = leaf.Newline; text = (0x0A ∷ []) } ∷ record { leaf = leaf.Ws; text = (0x20 ∷ []) }
                ∷ []);
            nested =
                (entry None (scalar (record { leaf = leaf.Integer; text = (0x31 ∷ []) })) none
                (record { leaf = leaf.Ws; text = (0x20 ∷ []) } ∷ [])
                (Some (record { leaf = leaf.Ws; text = (0x20 ∷ []) }
                ∷ record { leaf = leaf.Comment; text = (0x23 ∷ 0x20 ∷ 0x74 ∷ 0x77 ∷ 0x6F ∷ []) }
                ∷ record { leaf = leaf.Newline; text = (0x0A ∷ []) } ∷ record { leaf = leaf.Ws; text = (0x09 ∷ []) }
                ∷ [])) (entry None (inline (record { leaf = leaf.Ws; text = (0x20 ∷ []) } ∷ []))
                (entry (Some (record {
                  key = record { first = record { leaf = leaf.BareKey; text = (0x62 ∷ []) }; more = ([]) };
                  before = (record { leaf = leaf.Ws; text = (0x20 ∷ []) } ∷ []);
                  after = (record { leaf = leaf.Ws; text = (0x20 ∷ []) } ∷ []);
                })) (scalar (record { leaf = leaf.Integer; text = (0x32 ∷ []) })) none
                (record { leaf = leaf.Ws; text = (0x20 ∷ []) } ∷ [])
                (Some (record { leaf = leaf.Ws; text = (0x20 ∷ []) } ∷ []))
                (entry (Some (record {
                  key = record {
                    first = record { leaf = leaf.BareKey; text = (0x63 ∷ []) };
                    more = (record {
                      before = ([]);
                      after = ([]);
                      part = record { leaf = leaf.BareKey; text = (0x64 ∷ []) };
                    } ∷ []);
                  };
                  before = ([]);
                  after = ([]);
                })) (array (record { leaf = leaf.Ws; text = (0x20 ∷ []) } ∷ [])) none
                (record { leaf = leaf.Ws; text = (0x20 ∷ []) } ∷ []) None none))
                (record { leaf = leaf.Ws; text = (0x20 ∷ []) } ∷ []) None none));
          }));
      after = ([]);
      comment = None;
    };
    newline = record { leaf = leaf.Newline; text = (0x0A ∷ []) };
  } ∷ []);
  last = record {
    before = ([]);
    content =
        (keyval (record {
          key = record { first = record { leaf = leaf.BareKey; text = (0x7A ∷ []) }; more = ([]) };
          before = (record { leaf = leaf.Ws; text = (0x20 ∷ []) } ∷ []);
          after = (record { leaf = leaf.Ws; text = (0x20 ∷ []) } ∷ []);
        }) (record {
          body =
              scalar (record { leaf = leaf.Boolean; text = (0x74 ∷ 0x72 ∷ 0x75 ∷ 0x65 ∷ []) });
          nested = none;
        }));
    after = ([]);
    comment = None;
  };
}

doc12_read : Reads Strict standard_depth
    (0x61 ∷ 0x20 ∷ 0x3D ∷ 0x20 ∷ 0x5B ∷ 0x20 ∷ 0x23 ∷ 0x20 ∷ 0x6F ∷ 0x6E ∷ 0x65 ∷ 0x0A ∷ 0x20 ∷ 0x31 ∷ 0x20 ∷ 0x2C
    ∷ 0x20 ∷ 0x23 ∷ 0x20 ∷ 0x74 ∷ 0x77 ∷ 0x6F ∷ 0x0A ∷ 0x09 ∷ 0x7B ∷ 0x20 ∷ 0x62 ∷ 0x20 ∷ 0x3D ∷ 0x20 ∷ 0x32 ∷ 0x20
    ∷ 0x2C ∷ 0x20 ∷ 0x63 ∷ 0x2E ∷ 0x64 ∷ 0x3D ∷ 0x5B ∷ 0x20 ∷ 0x5D ∷ 0x20 ∷ 0x7D ∷ 0x20 ∷ 0x5D ∷ 0x0A ∷ 0x7A ∷ 0x20
    ∷ 0x3D ∷ 0x20 ∷ 0x74 ∷ 0x72 ∷ 0x75 ∷ 0x65 ∷ []) doc12
doc12_read =
    record {
      valid = record {
        ended = (
          record {
            line = record {
              before = tt;
              content = (
                record {
                  key = record { first = (refl, (omega arith, refl)); more = tt };
                  before = (refl, (omega arith, refl));
                  after = (refl, (omega arith, refl));
                },
                record {
                  body = (
                    refl,
                    (omega arith, refl),
                    refl,
                    (
                      refl,
                      ((0x23 ∷ []), (0x20 ∷ 0x6F ∷ 0x6E ∷ 0x65 ∷ []), refl, refl, refl),
                      refl,
                      (refl, (inl refl), tt, (refl, (omega arith, refl), tt, tt)),
                    ),
                  );
                  nested = (
                    tt,
                    (refl, (integer_text_from (0x31 ∷ []) refl, record { sfits = omega arith })),
                    tt,
                    (refl, (omega arith, refl), tt, tt),
                    (
                      refl,
                      (omega arith, refl),
                      refl,
                      (
                        refl,
                        ((0x23 ∷ []), (0x20 ∷ 0x74 ∷ 0x77 ∷ 0x6F ∷ []), refl, refl, refl),
                        refl,
                        (refl, (inl refl), tt, (refl, (omega arith, refl), tt, tt)),
                      ),
                    ),
                    (
                      tt,
                      (refl, (omega arith, refl)),
                      (
                        record {
                          key = record { first = (refl, (omega arith, refl)); more = tt };
                          before = (refl, (omega arith, refl));
                          after = (refl, (omega arith, refl));
                        },
                        (refl, (integer_text_from (0x32 ∷ []) refl, record { sfits = omega arith })),
                        tt,
                        (refl, (omega arith, refl)),
                        (refl, (omega arith, refl)),
                        (
                          record {
                            key = record {
                              first = (refl, (omega arith, refl));
                              more = (record { before = tt; after = tt; part = (refl, (omega arith, refl)) }, tt);
                            };
                            before = tt;
                            after = tt;
                          },
                          (refl, (omega arith, refl), tt, tt),
                          tt,
                          (refl, (omega arith, refl)),
                          tt,
                          tt,
                        ),
                      ),
                      (refl, (omega arith, refl), tt, tt),
                      tt,
                      tt,
                    ),
                  );
                },
              );
              after = tt;
              comment = tt;
            };
            kind = refl;
            newline = (inl refl);
          },
          tt,
        );
        last = record {
          before = tt;
          content = (
            record {
              key = record { first = (refl, (omega arith, refl)); more = tt };
              before = (refl, (omega arith, refl));
              after = (refl, (omega arith, refl));
            },
            record { body = (refl, (inl refl)); nested = tt },
          );
          after = tt;
          comment = tt;
        };
      };
      spelled = refl;
      shallow = omega arith;
    }

doc12_tokens : tokens doc12 ≡ record { leaf = leaf.BareKey; at = 0; text = (0x61 ∷ []) }
    ∷ record { leaf = leaf.Ws; at = 1; text = (0x20 ∷ []) } ∷ record { leaf = leaf.Equals; at = 2; text = (0x3D ∷ []) }
    ∷ record { leaf = leaf.Ws; at = 3; text = (0x20 ∷ []) }
    ∷ record { leaf = leaf.ArrayOpen; at = 4; text = (0x5B ∷ []) }
    ∷ record { leaf = leaf.Ws; at = 5; text = (0x20 ∷ []) }
    ∷ record { leaf = leaf.Comment; at = 6; text = (0x23 ∷ 0x20 ∷ 0x6F ∷ 0x6E ∷ 0x65 ∷ []) }
    ∷ record { leaf = leaf.Newline; at = 11; text = (0x0A ∷ []) }
    ∷ record { leaf = leaf.Ws; at = 12; text = (0x20 ∷ []) }
    ∷ record { leaf = leaf.Integer; at = 13; text = (0x31 ∷ []) }
    ∷ record { leaf = leaf.Ws; at = 14; text = (0x20 ∷ []) } ∷ record { leaf = leaf.Comma; at = 15; text = (0x2C ∷ []) }
    ∷ record { leaf = leaf.Ws; at = 16; text = (0x20 ∷ []) }
    ∷ record { leaf = leaf.Comment; at = 17; text = (0x23 ∷ 0x20 ∷ 0x74 ∷ 0x77 ∷ 0x6F ∷ []) }
    ∷ record { leaf = leaf.Newline; at = 22; text = (0x0A ∷ []) }
    ∷ record { leaf = leaf.Ws; at = 23; text = (0x09 ∷ []) }
    ∷ record { leaf = leaf.InlineOpen; at = 24; text = (0x7B ∷ []) }
    ∷ record { leaf = leaf.Ws; at = 25; text = (0x20 ∷ []) }
    ∷ record { leaf = leaf.BareKey; at = 26; text = (0x62 ∷ []) }
    ∷ record { leaf = leaf.Ws; at = 27; text = (0x20 ∷ []) }
    ∷ record { leaf = leaf.Equals; at = 28; text = (0x3D ∷ []) }
    ∷ record { leaf = leaf.Ws; at = 29; text = (0x20 ∷ []) }
    ∷ record { leaf = leaf.Integer; at = 30; text = (0x32 ∷ []) }
    ∷ record { leaf = leaf.Ws; at = 31; text = (0x20 ∷ []) } ∷ record { leaf = leaf.Comma; at = 32; text = (0x2C ∷ []) }
    ∷ record { leaf = leaf.Ws; at = 33; text = (0x20 ∷ []) }
    ∷ record { leaf = leaf.BareKey; at = 34; text = (0x63 ∷ []) }
    ∷ record { leaf = leaf.Dot; at = 35; text = (0x2E ∷ []) }
    ∷ record { leaf = leaf.BareKey; at = 36; text = (0x64 ∷ []) }
    ∷ record { leaf = leaf.Equals; at = 37; text = (0x3D ∷ []) }
    ∷ record { leaf = leaf.ArrayOpen; at = 38; text = (0x5B ∷ []) }
    ∷ record { leaf = leaf.Ws; at = 39; text = (0x20 ∷ []) }
    ∷ record { leaf = leaf.ArrayClose; at = 40; text = (0x5D ∷ []) }
    ∷ record { leaf = leaf.Ws; at = 41; text = (0x20 ∷ []) }
    ∷ record { leaf = leaf.InlineClose; at = 42; text = (0x7D ∷ []) }
    ∷ record { leaf = leaf.Ws; at = 43; text = (0x20 ∷ []) }
    ∷ record { leaf = leaf.ArrayClose; at = 44; text = (0x5D ∷ []) }
    ∷ record { leaf = leaf.Newline; at = 45; text = (0x0A ∷ []) }
    ∷ record { leaf = leaf.BareKey; at = 46; text = (0x7A ∷ []) }
    ∷ record { leaf = leaf.Ws; at = 47; text = (0x20 ∷ []) }
    ∷ record { leaf = leaf.Equals; at = 48; text = (0x3D ∷ []) }
    ∷ record { leaf = leaf.Ws; at = 49; text = (0x20 ∷ []) }
    ∷ record { leaf = leaf.Boolean; at = 50; text = (0x74 ∷ 0x72 ∷ 0x75 ∷ 0x65 ∷ []) }
    ∷ record { leaf = leaf.End; at = 54; text = ([]) } ∷ []
doc12_tokens = refl

doc12_statements : statements doc12
    ≡ record { kind = KeyVal; span = span 0 45; line = span 0 46; first_key = 0; keys = 1; value = Some 0 }
    ∷ record { kind = KeyVal; span = span 46 54; line = span 46 54; first_key = 4; keys = 1; value = Some 5 } ∷ []
doc12_statements = refl

doc12_parts : parts doc12 ≡ record { leaf = leaf.BareKey; span = span 0 1 }
    ∷ record { leaf = leaf.BareKey; span = span 26 27 } ∷ record { leaf = leaf.BareKey; span = span 34 35 }
    ∷ record { leaf = leaf.BareKey; span = span 36 37 } ∷ record { leaf = leaf.BareKey; span = span 46 47 } ∷ []
doc12_parts = refl

doc12_values : values doc12 ≡ record {
  leaf = leaf.ArrayOpen;
  span = span 4 45;
  whole = span 0 45;
  owner = owner.Line 0;
  depth = 0;
  first_key = 0;
  keys = 1;
  comma_before = None;
  comma_after = None;
} ∷ record {
  leaf =
      leaf.Integer;
  span = span 13 14;
  whole = span 13 14;
  owner = owner.Item 0;
  depth = 1;
  first_key = 1;
  keys = 0;
  comma_before = None;
  comma_after = Some 15;
} ∷ record {
  leaf =
      leaf.InlineOpen;
  span = span 24 43;
  whole = span 24 43;
  owner = owner.Item 0;
  depth = 1;
  first_key = 1;
  keys = 0;
  comma_before = Some 15;
  comma_after = None;
} ∷ record {
  leaf =
      leaf.Integer;
  span = span 30 31;
  whole = span 26 31;
  owner = owner.Inline 2;
  depth = 2;
  first_key = 1;
  keys = 1;
  comma_before = None;
  comma_after = Some 32;
} ∷ record {
  leaf =
      leaf.ArrayOpen;
  span = span 38 41;
  whole = span 34 41;
  owner = owner.Inline 2;
  depth = 2;
  first_key = 2;
  keys = 2;
  comma_before = Some 32;
  comma_after = None;
} ∷ record {
  leaf =
      leaf.Boolean;
  span = span 50 54;
  whole = span 46 54;
  owner = owner.Line 1;
  depth = 0;
  first_key = 4;
  keys = 1;
  comma_before = None;
  comma_after = None;
} ∷ []
doc12_values = refl

doc12_depth : depth doc12 ≡ 3
doc12_depth = refl

-- b'"a" . b = \'\'\'x\'\'\'\n'
abbrev doc13 : Document
doc13 = record {
  bom = false;
  ended = (record {
    line = record {
      before = ([]);
      content =
          (keyval (record {
            key = record {
              first = record { leaf = leaf.Basic; text = (0x22 ∷ 0x61 ∷ 0x22 ∷ []) };
              more = (record {
                before = (record { leaf = leaf.Ws; text = (0x20 ∷ []) } ∷ []);
                after = (record { leaf = leaf.Ws; text = (0x20 ∷ []) } ∷ []);
                part = record { leaf = leaf.BareKey; text = (0x62 ∷ []) };
              } ∷ []);
            };
            before = (record { leaf = leaf.Ws; text = (0x20 ∷ []) } ∷ []);
            after = (record { leaf = leaf.Ws; text = (0x20 ∷ []) } ∷ []);
          }) (record {
            body =
                scalar (record { leaf = leaf.MlLiteral; text = (0x27 ∷ 0x27 ∷ 0x27 ∷ 0x78 ∷ 0x27 ∷ 0x27 ∷ 0x27 ∷ []) });
            nested = none;
          }));
      after = ([]);
      comment = None;
    };
    newline = record { leaf = leaf.Newline; text = (0x0A ∷ []) };
  } ∷ []);
  last = record { before = ([]); content = blank; after = ([]); comment = None };
}

doc13_read : Reads Strict standard_depth
    (0x22 ∷ 0x61 ∷ 0x22 ∷ 0x20 ∷ 0x2E ∷ 0x20 ∷ 0x62 ∷ 0x20 ∷ 0x3D ∷ 0x20 ∷ 0x27 ∷ 0x27 ∷ 0x27 ∷ 0x78 ∷ 0x27 ∷ 0x27
    ∷ 0x27 ∷ 0x0A ∷ []) doc13
doc13_read =
    record {
      valid = record {
        ended = (
          record {
            line = record {
              before = tt;
              content = (
                record {
                  key = record {
                    first = (refl, ((Plain 0x61 ∷ []), record { spelled = refl; each = (refl, tt) }));
                    more = (
                      record {
                        before = (refl, (omega arith, refl));
                        after = (refl, (omega arith, refl));
                        part = (refl, (omega arith, refl));
                      },
                      tt,
                    );
                  };
                  before = (refl, (omega arith, refl));
                  after = (refl, (omega arith, refl));
                },
                record {
                  body = (refl, ((Plain 0x78 ∷ []), record { spelled = refl; each = (refl, tt); no_end = refl }));
                  nested = tt;
                },
              );
              after = tt;
              comment = tt;
            };
            kind = refl;
            newline = (inl refl);
          },
          tt,
        );
        last = record { before = tt; content = tt; after = refl; comment = tt };
      };
      spelled = refl;
      shallow = omega arith;
    }

doc13_tokens : tokens doc13 ≡ record { leaf = leaf.Basic; at = 0; text = (0x22 ∷ 0x61 ∷ 0x22 ∷ []) }
    ∷ record { leaf = leaf.Ws; at = 3; text = (0x20 ∷ []) } ∷ record { leaf = leaf.Dot; at = 4; text = (0x2E ∷ []) }
    ∷ record { leaf = leaf.Ws; at = 5; text = (0x20 ∷ []) } ∷ record { leaf = leaf.BareKey; at = 6; text = (0x62 ∷ []) }
    ∷ record { leaf = leaf.Ws; at = 7; text = (0x20 ∷ []) } ∷ record { leaf = leaf.Equals; at = 8; text = (0x3D ∷ []) }
    ∷ record { leaf = leaf.Ws; at = 9; text = (0x20 ∷ []) }
    ∷ record { leaf = leaf.MlLiteral; at = 10; text = (0x27 ∷ 0x27 ∷ 0x27 ∷ 0x78 ∷ 0x27 ∷ 0x27 ∷ 0x27 ∷ []) }
    ∷ record { leaf = leaf.Newline; at = 17; text = (0x0A ∷ []) } ∷ record { leaf = leaf.End; at = 18; text = ([]) }
    ∷ []
doc13_tokens = refl

doc13_statements : statements doc13
    ≡ record { kind = KeyVal; span = span 0 17; line = span 0 18; first_key = 0; keys = 2; value = Some 0 } ∷ []
doc13_statements = refl

doc13_parts : parts doc13 ≡ record { leaf = leaf.Basic; span = span 0 3 }
    ∷ record { leaf = leaf.BareKey; span = span 6 7 } ∷ []
doc13_parts = refl

doc13_values : values doc13 ≡ record {
  leaf = leaf.MlLiteral;
  span = span 10 17;
  whole = span 0 17;
  owner = owner.Line 0;
  depth = 0;
  first_key = 0;
  keys = 2;
  comma_before = None;
  comma_after = None;
} ∷ []
doc13_values = refl

doc13_depth : depth doc13 ≡ 0
doc13_depth = refl

-- b'a = {x = 1,\n # c\n}'
abbrev doc14 : Document
doc14 = record {
  bom = false;
  ended = ([]);
  last = record {
    before = ([]);
    content =
        (keyval (record {
          key = record { first = record { leaf = leaf.BareKey; text = (0x61 ∷ []) }; more = ([]) };
          before = (record { leaf = leaf.Ws; text = (0x20 ∷ []) } ∷ []);
          after = (record { leaf = leaf.Ws; text = (0x20 ∷ []) } ∷ []);
        }) (record {
          body =
              inline ([]);
          nested =
              (entry (Some (record {
                key = record { first = record { leaf = leaf.BareKey; text = (0x78 ∷ []) }; more = ([]) };
                before = (record { leaf = leaf.Ws; text = (0x20 ∷ []) } ∷ []);
                after = (record { leaf = leaf.Ws; text = (0x20 ∷ []) } ∷ []);
              })) (scalar (record { leaf = leaf.Integer; text = (0x31 ∷ []) })) none ([])
              (Some (record { leaf = leaf.Newline; text = (0x0A ∷ []) } ∷ record { leaf = leaf.Ws; text = (0x20 ∷ []) }
              ∷ record { leaf = leaf.Comment; text = (0x23 ∷ 0x20 ∷ 0x63 ∷ []) }
              ∷ record { leaf = leaf.Newline; text = (0x0A ∷ []) } ∷ [])) none);
        }));
    after = ([]);
    comment = None;
  };
}

doc14_read : Reads Wide standard_depth
    (0x61 ∷ 0x20 ∷ 0x3D ∷ 0x20 ∷ 0x7B ∷ 0x78 ∷ 0x20 ∷ 0x3D ∷ 0x20 ∷ 0x31 ∷ 0x2C ∷ 0x0A ∷ 0x20 ∷ 0x23 ∷ 0x20 ∷ 0x63
    ∷ 0x0A ∷ 0x7D ∷ []) doc14
doc14_read =
    record {
      valid = record {
        ended = tt;
        last = record {
          before = tt;
          content = (
            record {
              key = record { first = (refl, (omega arith, refl)); more = tt };
              before = (refl, (omega arith, refl));
              after = (refl, (omega arith, refl));
            },
            record {
              body = tt;
              nested = (
                record {
                  key = record { first = (refl, (omega arith, refl)); more = tt };
                  before = (refl, (omega arith, refl));
                  after = (refl, (omega arith, refl));
                },
                (refl, (integer_text_from (0x31 ∷ []) refl, record { sfits = omega arith })),
                tt,
                tt,
                (
                  (
                    refl,
                    (inl refl),
                    tt,
                    (
                      refl,
                      (omega arith, refl),
                      refl,
                      (refl, ((0x23 ∷ []), (0x20 ∷ 0x63 ∷ []), refl, refl, refl), refl, (refl, (inl refl), tt, tt)),
                    ),
                  ),
                  tt,
                ),
                tt,
              );
            },
          );
          after = tt;
          comment = tt;
        };
      };
      spelled = refl;
      shallow = omega arith;
    }

doc14_tokens : tokens doc14 ≡ record { leaf = leaf.BareKey; at = 0; text = (0x61 ∷ []) }
    ∷ record { leaf = leaf.Ws; at = 1; text = (0x20 ∷ []) } ∷ record { leaf = leaf.Equals; at = 2; text = (0x3D ∷ []) }
    ∷ record { leaf = leaf.Ws; at = 3; text = (0x20 ∷ []) }
    ∷ record { leaf = leaf.InlineOpen; at = 4; text = (0x7B ∷ []) }
    ∷ record { leaf = leaf.BareKey; at = 5; text = (0x78 ∷ []) } ∷ record { leaf = leaf.Ws; at = 6; text = (0x20 ∷ []) }
    ∷ record { leaf = leaf.Equals; at = 7; text = (0x3D ∷ []) } ∷ record { leaf = leaf.Ws; at = 8; text = (0x20 ∷ []) }
    ∷ record { leaf = leaf.Integer; at = 9; text = (0x31 ∷ []) }
    ∷ record { leaf = leaf.Comma; at = 10; text = (0x2C ∷ []) }
    ∷ record { leaf = leaf.Newline; at = 11; text = (0x0A ∷ []) }
    ∷ record { leaf = leaf.Ws; at = 12; text = (0x20 ∷ []) }
    ∷ record { leaf = leaf.Comment; at = 13; text = (0x23 ∷ 0x20 ∷ 0x63 ∷ []) }
    ∷ record { leaf = leaf.Newline; at = 16; text = (0x0A ∷ []) }
    ∷ record { leaf = leaf.InlineClose; at = 17; text = (0x7D ∷ []) } ∷ record { leaf = leaf.End; at = 18; text = ([]) }
    ∷ []
doc14_tokens = refl

doc14_statements : statements doc14
    ≡ record { kind = KeyVal; span = span 0 18; line = span 0 18; first_key = 0; keys = 1; value = Some 0 } ∷ []
doc14_statements = refl

doc14_parts : parts doc14 ≡ record { leaf = leaf.BareKey; span = span 0 1 }
    ∷ record { leaf = leaf.BareKey; span = span 5 6 } ∷ []
doc14_parts = refl

doc14_values : values doc14 ≡ record {
  leaf = leaf.InlineOpen;
  span = span 4 18;
  whole = span 0 18;
  owner = owner.Line 0;
  depth = 0;
  first_key = 0;
  keys = 1;
  comma_before = None;
  comma_after = None;
} ∷ record {
  leaf =
      leaf.Integer;
  span = span 9 10;
  whole = span 5 10;
  owner = owner.Inline 0;
  depth = 1;
  first_key = 1;
  keys = 1;
  comma_before = None;
  comma_after = Some 10;
} ∷ []
doc14_values = refl

doc14_depth : depth doc14 ≡ 1
doc14_depth = refl

-- b'd = 1979-05-27 07:32:00 # c\n'
abbrev doc15 : Document
doc15 = record {
  bom = false;
  ended = (record {
    line = record {
      before = ([]);
      content =
          (keyval (record {
            key = record { first = record { leaf = leaf.BareKey; text = (0x64 ∷ []) }; more = ([]) };
            before = (record { leaf = leaf.Ws; text = (0x20 ∷ []) } ∷ []);
            after = (record { leaf = leaf.Ws; text = (0x20 ∷ []) } ∷ []);
          }) (record {
            body =
                scalar (record {
                  leaf = leaf.LocalDateTime;
                  text = (0x31 ∷ 0x39 ∷ 0x37 ∷ 0x39 ∷ 0x2D ∷ 0x30 ∷ 0x35 ∷ 0x2D ∷ 0x32 ∷ 0x37 ∷ 0x20 ∷ 0x30 ∷ 0x37
                      ∷ 0x3A ∷ 0x33 ∷ 0x32 ∷ 0x3A ∷ 0x30 ∷ 0x30 ∷ []);
                });
            nested = none;
          }));
      after = (record { leaf = leaf.Ws; text = (0x20 ∷ []) } ∷ []);
      comment = (Some (record { leaf = leaf.Comment; text = (0x23 ∷ 0x20 ∷ 0x63 ∷ []) }));
    };
    newline = record { leaf = leaf.Newline; text = (0x0A ∷ []) };
  } ∷ []);
  last = record { before = ([]); content = blank; after = ([]); comment = None };
}

doc15_read : Reads Strict standard_depth
    (0x64 ∷ 0x20 ∷ 0x3D ∷ 0x20 ∷ 0x31 ∷ 0x39 ∷ 0x37 ∷ 0x39 ∷ 0x2D ∷ 0x30 ∷ 0x35 ∷ 0x2D ∷ 0x32 ∷ 0x37 ∷ 0x20 ∷ 0x30
    ∷ 0x37 ∷ 0x3A ∷ 0x33 ∷ 0x32 ∷ 0x3A ∷ 0x30 ∷ 0x30 ∷ 0x20 ∷ 0x23 ∷ 0x20 ∷ 0x63 ∷ 0x0A ∷ []) doc15
doc15_read =
    record {
      valid = record {
        ended = (
          record {
            line = record {
              before = tt;
              content = (
                record {
                  key = record { first = (refl, (omega arith, refl)); more = tt };
                  before = (refl, (omega arith, refl));
                  after = (refl, (omega arith, refl));
                },
                record {
                  body = (
                    refl,
                    (
                      (0x31 ∷ 0x39 ∷ 0x37 ∷ 0x39 ∷ 0x2D ∷ 0x30 ∷ 0x35 ∷ 0x2D ∷ 0x32 ∷ 0x37 ∷ []),
                      (0x20 ∷ 0x30 ∷ 0x37 ∷ 0x3A ∷ 0x33 ∷ 0x32 ∷ 0x3A ∷ 0x30 ∷ 0x30 ∷ []),
                      refl,
                      (1979, 5, 27, omega arith, omega arith, omega arith, omega arith, omega arith, refl),
                      (
                        (0x20 ∷ []),
                        (0x30 ∷ 0x37 ∷ 0x3A ∷ 0x33 ∷ 0x32 ∷ 0x3A ∷ 0x30 ∷ 0x30 ∷ []),
                        refl,
                        (0x20, refl, refl),
                        (
                          (0x30 ∷ 0x37 ∷ 0x3A ∷ 0x33 ∷ 0x32 ∷ 0x3A ∷ 0x30 ∷ 0x30 ∷ []),
                          ([]),
                          refl,
                          (
                            (0x30 ∷ 0x37 ∷ 0x3A ∷ 0x33 ∷ 0x32 ∷ []),
                            (0x3A ∷ 0x30 ∷ 0x30 ∷ []),
                            refl,
                            (7, 32, omega arith, omega arith, refl),
                            (0, omega arith, refl),
                          ),
                          inl refl,
                        ),
                      ),
                    ),
                  );
                  nested = tt;
                },
              );
              after = (refl, (omega arith, refl));
              comment = (refl, ((0x23 ∷ []), (0x20 ∷ 0x63 ∷ []), refl, refl, refl));
            };
            kind = refl;
            newline = (inl refl);
          },
          tt,
        );
        last = record { before = tt; content = tt; after = refl; comment = tt };
      };
      spelled = refl;
      shallow = omega arith;
    }

doc15_tokens : tokens doc15 ≡ record { leaf = leaf.BareKey; at = 0; text = (0x64 ∷ []) }
    ∷ record { leaf = leaf.Ws; at = 1; text = (0x20 ∷ []) } ∷ record { leaf = leaf.Equals; at = 2; text = (0x3D ∷ []) }
    ∷ record { leaf = leaf.Ws; at = 3; text = (0x20 ∷ []) }
    ∷ record {
      leaf = leaf.LocalDateTime;
      at = 4;
      text = (0x31 ∷ 0x39 ∷ 0x37 ∷ 0x39 ∷ 0x2D ∷ 0x30 ∷ 0x35 ∷ 0x2D ∷ 0x32 ∷ 0x37 ∷ 0x20 ∷ 0x30 ∷ 0x37 ∷ 0x3A ∷ 0x33
          ∷ 0x32 ∷ 0x3A ∷ 0x30 ∷ 0x30 ∷ []);
    } ∷ record { leaf = leaf.Ws; at = 23; text = (0x20 ∷ []) }
    ∷ record { leaf = leaf.Comment; at = 24; text = (0x23 ∷ 0x20 ∷ 0x63 ∷ []) }
    ∷ record { leaf = leaf.Newline; at = 27; text = (0x0A ∷ []) } ∷ record { leaf = leaf.End; at = 28; text = ([]) }
    ∷ []
doc15_tokens = refl

doc15_statements : statements doc15
    ≡ record { kind = KeyVal; span = span 0 23; line = span 0 28; first_key = 0; keys = 1; value = Some 0 } ∷ []
doc15_statements = refl

doc15_parts : parts doc15 ≡ record { leaf = leaf.BareKey; span = span 0 1 } ∷ []
doc15_parts = refl

doc15_values : values doc15 ≡ record {
  leaf = leaf.LocalDateTime;
  span = span 4 23;
  whole = span 0 23;
  owner = owner.Line 0;
  depth = 0;
  first_key = 0;
  keys = 1;
  comma_before = None;
  comma_after = None;
} ∷ []
doc15_values = refl

doc15_depth : depth doc15 ≡ 0
doc15_depth = refl

-- b'a = """x"""""\n'
abbrev doc16 : Document
doc16 = record {
  bom = false;
  ended = (record {
    line = record {
      before = ([]);
      content =
          (keyval (record {
            key = record { first = record { leaf = leaf.BareKey; text = (0x61 ∷ []) }; more = ([]) };
            before = (record { leaf = leaf.Ws; text = (0x20 ∷ []) } ∷ []);
            after = (record { leaf = leaf.Ws; text = (0x20 ∷ []) } ∷ []);
          }) (record {
            body =
                scalar (record {
                  leaf = leaf.MlBasic;
                  text = (0x22 ∷ 0x22 ∷ 0x22 ∷ 0x78 ∷ 0x22 ∷ 0x22 ∷ 0x22 ∷ 0x22 ∷ 0x22 ∷ []);
                });
            nested = none;
          }));
      after = ([]);
      comment = None;
    };
    newline = record { leaf = leaf.Newline; text = (0x0A ∷ []) };
  } ∷ []);
  last = record { before = ([]); content = blank; after = ([]); comment = None };
}

doc16_read : Reads Strict standard_depth
    (0x61 ∷ 0x20 ∷ 0x3D ∷ 0x20 ∷ 0x22 ∷ 0x22 ∷ 0x22 ∷ 0x78 ∷ 0x22 ∷ 0x22 ∷ 0x22 ∷ 0x22 ∷ 0x22 ∷ 0x0A ∷ []) doc16
doc16_read =
    record {
      valid = record {
        ended = (
          record {
            line = record {
              before = tt;
              content = (
                record {
                  key = record { first = (refl, (omega arith, refl)); more = tt };
                  before = (refl, (omega arith, refl));
                  after = (refl, (omega arith, refl));
                },
                record {
                  body = (
                    refl,
                    (
                      (Plain 0x78 ∷ Plain 0x22 ∷ Plain 0x22 ∷ []),
                      record { spelled = refl; each = (refl, (refl, (refl, tt))); no_end = refl; whole = refl },
                    ),
                  );
                  nested = tt;
                },
              );
              after = tt;
              comment = tt;
            };
            kind = refl;
            newline = (inl refl);
          },
          tt,
        );
        last = record { before = tt; content = tt; after = refl; comment = tt };
      };
      spelled = refl;
      shallow = omega arith;
    }

doc16_tokens : tokens doc16 ≡ record { leaf = leaf.BareKey; at = 0; text = (0x61 ∷ []) }
    ∷ record { leaf = leaf.Ws; at = 1; text = (0x20 ∷ []) } ∷ record { leaf = leaf.Equals; at = 2; text = (0x3D ∷ []) }
    ∷ record { leaf = leaf.Ws; at = 3; text = (0x20 ∷ []) }
    ∷ record { leaf = leaf.MlBasic; at = 4; text = (0x22 ∷ 0x22 ∷ 0x22 ∷ 0x78 ∷ 0x22 ∷ 0x22 ∷ 0x22 ∷ 0x22 ∷ 0x22 ∷ []) }
    ∷ record { leaf = leaf.Newline; at = 13; text = (0x0A ∷ []) } ∷ record { leaf = leaf.End; at = 14; text = ([]) }
    ∷ []
doc16_tokens = refl

doc16_statements : statements doc16
    ≡ record { kind = KeyVal; span = span 0 13; line = span 0 14; first_key = 0; keys = 1; value = Some 0 } ∷ []
doc16_statements = refl

doc16_parts : parts doc16 ≡ record { leaf = leaf.BareKey; span = span 0 1 } ∷ []
doc16_parts = refl

doc16_values : values doc16 ≡ record {
  leaf = leaf.MlBasic;
  span = span 4 13;
  whole = span 0 13;
  owner = owner.Line 0;
  depth = 0;
  first_key = 0;
  keys = 1;
  comma_before = None;
  comma_after = None;
} ∷ []
doc16_values = refl

doc16_depth : depth doc16 ≡ 0
doc16_depth = refl

-- b'\xef\xbb\xbfa = """\n\r\n"b"""" # d\n\t[[ x ]]'
abbrev doc17 : Document
doc17 = record {
  bom = true;
  ended = (record {
    line = record {
      before = ([]);
      content =
          (keyval (record {
            key = record { first = record { leaf = leaf.BareKey; text = (0x61 ∷ []) }; more = ([]) };
            before = (record { leaf = leaf.Ws; text = (0x20 ∷ []) } ∷ []);
            after = (record { leaf = leaf.Ws; text = (0x20 ∷ []) } ∷ []);
          }) (record {
            body =
                scalar (record {
                  leaf = leaf.MlBasic;
                  text = (0x22 ∷ 0x22 ∷ 0x22 ∷ 0x0A ∷ 0x0D ∷ 0x0A ∷ 0x22 ∷ 0x62 ∷ 0x22 ∷ 0x22 ∷ 0x22 ∷ 0x22 ∷ []);
                });
            nested = none;
          }));
      after = (record { leaf = leaf.Ws; text = (0x20 ∷ []) } ∷ []);
      comment = (Some (record { leaf = leaf.Comment; text = (0x23 ∷ 0x20 ∷ 0x64 ∷ []) }));
    };
    newline = record { leaf = leaf.Newline; text = (0x0A ∷ []) };
  } ∷ []);
  last = record {
    before = (record { leaf = leaf.Ws; text = (0x09 ∷ []) } ∷ []);
    content =
        (element (record { leaf = leaf.Ws; text = (0x20 ∷ []) } ∷ [])
        (record { first = record { leaf = leaf.BareKey; text = (0x78 ∷ []) }; more = ([]) })
        (record { leaf = leaf.Ws; text = (0x20 ∷ []) } ∷ []));
    after = ([]);
    comment = None;
  };
}

doc17_read : Reads Strict standard_depth
    (0xEF ∷ 0xBB ∷ 0xBF ∷ 0x61 ∷ 0x20 ∷ 0x3D ∷ 0x20 ∷ 0x22 ∷ 0x22 ∷ 0x22 ∷ 0x0A ∷ 0x0D ∷ 0x0A ∷ 0x22 ∷ 0x62 ∷ 0x22
    ∷ 0x22 ∷ 0x22 ∷ 0x22 ∷ 0x20 ∷ 0x23 ∷ 0x20 ∷ 0x64 ∷ 0x0A ∷ 0x09 ∷ 0x5B ∷ 0x5B ∷ 0x20 ∷ 0x78 ∷ 0x20 ∷ 0x5D ∷ 0x5D
    ∷ []) doc17
doc17_read =
    record {
      valid = record {
        ended = (
          record {
            line = record {
              before = tt;
              content = (
                record {
                  key = record { first = (refl, (omega arith, refl)); more = tt };
                  before = (refl, (omega arith, refl));
                  after = (refl, (omega arith, refl));
                },
                record {
                  body = (
                    refl,
                    (
                      (Break (0x0A ∷ []) ∷ Break (0x0D ∷ 0x0A ∷ []) ∷ Plain 0x22 ∷ Plain 0x62 ∷ Plain 0x22 ∷ []),
                      record {
                        spelled = refl;
                        each = (inl refl, (inr refl, (refl, (refl, (refl, tt)))));
                        no_end = refl;
                        whole = refl;
                      },
                    ),
                  );
                  nested = tt;
                },
              );
              after = (refl, (omega arith, refl));
              comment = (refl, ((0x23 ∷ []), (0x20 ∷ 0x64 ∷ []), refl, refl, refl));
            };
            kind = refl;
            newline = (inl refl);
          },
          tt,
        );
        last = record {
          before = (refl, (omega arith, refl));
          content = (
            (refl, (omega arith, refl)),
            record { first = (refl, (omega arith, refl)); more = tt },
            (refl, (omega arith, refl)),
          );
          after = tt;
          comment = tt;
        };
      };
      spelled = refl;
      shallow = omega arith;
    }

doc17_tokens : tokens doc17 ≡ record { leaf = leaf.Bom; at = 0; text = (0xEF ∷ 0xBB ∷ 0xBF ∷ []) }
    ∷ record { leaf = leaf.BareKey; at = 3; text = (0x61 ∷ []) } ∷ record { leaf = leaf.Ws; at = 4; text = (0x20 ∷ []) }
    ∷ record { leaf = leaf.Equals; at = 5; text = (0x3D ∷ []) } ∷ record { leaf = leaf.Ws; at = 6; text = (0x20 ∷ []) }
    ∷ record {
      leaf = leaf.MlBasic;
      at = 7;
      text = (0x22 ∷ 0x22 ∷ 0x22 ∷ 0x0A ∷ 0x0D ∷ 0x0A ∷ 0x22 ∷ 0x62 ∷ 0x22 ∷ 0x22 ∷ 0x22 ∷ 0x22 ∷ []);
    } ∷ record { leaf = leaf.Ws; at = 19; text = (0x20 ∷ []) }
    ∷ record { leaf = leaf.Comment; at = 20; text = (0x23 ∷ 0x20 ∷ 0x64 ∷ []) }
    ∷ record { leaf = leaf.Newline; at = 23; text = (0x0A ∷ []) }
    ∷ record { leaf = leaf.Ws; at = 24; text = (0x09 ∷ []) }
    ∷ record { leaf = leaf.ElemOpen; at = 25; text = (0x5B ∷ 0x5B ∷ []) }
    ∷ record { leaf = leaf.Ws; at = 27; text = (0x20 ∷ []) }
    ∷ record { leaf = leaf.BareKey; at = 28; text = (0x78 ∷ []) }
    ∷ record { leaf = leaf.Ws; at = 29; text = (0x20 ∷ []) }
    ∷ record { leaf = leaf.ElemClose; at = 30; text = (0x5D ∷ 0x5D ∷ []) }
    ∷ record { leaf = leaf.End; at = 32; text = ([]) } ∷ []
doc17_tokens = refl

doc17_statements : statements doc17
    ≡ record { kind = KeyVal; span = span 3 19; line = span 3 24; first_key = 0; keys = 1; value = Some 0 }
    ∷ record { kind = Element; span = span 25 32; line = span 24 32; first_key = 1; keys = 1; value = None } ∷ []
doc17_statements = refl

doc17_parts : parts doc17 ≡ record { leaf = leaf.BareKey; span = span 3 4 }
    ∷ record { leaf = leaf.BareKey; span = span 28 29 } ∷ []
doc17_parts = refl

doc17_values : values doc17 ≡ record {
  leaf = leaf.MlBasic;
  span = span 7 19;
  whole = span 3 19;
  owner = owner.Line 0;
  depth = 0;
  first_key = 0;
  keys = 1;
  comma_before = None;
  comma_after = None;
} ∷ []
doc17_values = refl

doc17_depth : depth doc17 ≡ 0
doc17_depth = refl

-- b'a = { # c\n x = 1 # d\n , y.z = [{}, [\n]] , \n}\nb = 2'
abbrev doc18 : Document
doc18 = record {
  bom = false;
  ended = (record {
    line = record {
      before = ([]);
      content =
          (keyval (record {
            key = record { first = record { leaf = leaf.BareKey; text = (0x61 ∷ []) }; more = ([]) };
            before = (record { leaf = leaf.Ws; text = (0x20 ∷ []) } ∷ []);
            after = (record { leaf = leaf.Ws; text = (0x20 ∷ []) } ∷ []);
          }) (record {
            body =
                inline (record { leaf = leaf.Ws; text = (0x20 ∷ []) }
                ∷ record { leaf = leaf.Comment; text = (0x23 ∷ 0x20 ∷ 0x63 ∷ []) }
                ∷ record { leaf = leaf.Newline; text = (0x0A ∷ []) } ∷ record { leaf = leaf.Ws; text = (0x20 ∷ []) }
                ∷ []);
            nested =
                (entry (Some (record {
                  key = record { first = record { leaf = leaf.BareKey; text = (0x78 ∷ []) }; more = ([]) };
                  before = (record { leaf = leaf.Ws; text = (0x20 ∷ []) } ∷ []);
                  after = (record { leaf = leaf.Ws; text = (0x20 ∷ []) } ∷ []);
                })) (scalar (record { leaf = leaf.Integer; text = (0x31 ∷ []) })) none
                (record { leaf = leaf.Ws; text = (0x20 ∷ []) }
                ∷ record { leaf = leaf.Comment; text = (0x23 ∷ 0x20 ∷ 0x64 ∷ []) }
                ∷ record { leaf = leaf.Newline; text = (0x0A ∷ []) } ∷ record { leaf = leaf.Ws; text = (0x20 ∷ []) }
                ∷ []) (Some (record { leaf = leaf.Ws; text = (0x20 ∷ []) } ∷ []))
                (entry (Some (record {
                  key = record {
                    first = record { leaf = leaf.BareKey; text = (0x79 ∷ []) };
                    more = (record {
                      before = ([]);
                      after = ([]);
                      part = record { leaf = leaf.BareKey; text = (0x7A ∷ []) };
                    } ∷ []);
                  };
                  before = (record { leaf = leaf.Ws; text = (0x20 ∷ []) } ∷ []);
                  after = (record { leaf = leaf.Ws; text = (0x20 ∷ []) } ∷ []);
                })) (array ([])) (entry None (inline ([])) none ([])
                (Some (record { leaf = leaf.Ws; text = (0x20 ∷ []) } ∷ []))
                (entry None (array (record { leaf = leaf.Newline; text = (0x0A ∷ []) } ∷ [])) none ([]) None none))
                (record { leaf = leaf.Ws; text = (0x20 ∷ []) } ∷ [])
                (Some (record { leaf = leaf.Ws; text = (0x20 ∷ []) }
                ∷ record { leaf = leaf.Newline; text = (0x0A ∷ []) } ∷ [])) none));
          }));
      after = ([]);
      comment = None;
    };
    newline = record { leaf = leaf.Newline; text = (0x0A ∷ []) };
  } ∷ []);
  last = record {
    before = ([]);
    content =
        (keyval (record {
          key = record { first = record { leaf = leaf.BareKey; text = (0x62 ∷ []) }; more = ([]) };
          before = (record { leaf = leaf.Ws; text = (0x20 ∷ []) } ∷ []);
          after = (record { leaf = leaf.Ws; text = (0x20 ∷ []) } ∷ []);
        }) (record { body = scalar (record { leaf = leaf.Integer; text = (0x32 ∷ []) }); nested = none }));
    after = ([]);
    comment = None;
  };
}

doc18_read : Reads Wide standard_depth
    (0x61 ∷ 0x20 ∷ 0x3D ∷ 0x20 ∷ 0x7B ∷ 0x20 ∷ 0x23 ∷ 0x20 ∷ 0x63 ∷ 0x0A ∷ 0x20 ∷ 0x78 ∷ 0x20 ∷ 0x3D ∷ 0x20 ∷ 0x31
    ∷ 0x20 ∷ 0x23 ∷ 0x20 ∷ 0x64 ∷ 0x0A ∷ 0x20 ∷ 0x2C ∷ 0x20 ∷ 0x79 ∷ 0x2E ∷ 0x7A ∷ 0x20 ∷ 0x3D ∷ 0x20 ∷ 0x5B ∷ 0x7B
    ∷ 0x7D ∷ 0x2C ∷ 0x20 ∷ 0x5B ∷ 0x0A ∷ 0x5D ∷ 0x5D ∷ 0x20 ∷ 0x2C ∷ 0x20 ∷ 0x0A ∷ 0x7D ∷ 0x0A ∷ 0x62 ∷ 0x20 ∷ 0x3D
    ∷ 0x20 ∷ 0x32 ∷ []) doc18
doc18_read =
    record {
      valid = record {
        ended = (
          record {
            line = record {
              before = tt;
              content = (
                record {
                  key = record { first = (refl, (omega arith, refl)); more = tt };
                  before = (refl, (omega arith, refl));
                  after = (refl, (omega arith, refl));
                },
                record {
                  body = (
                    refl,
                    (omega arith, refl),
                    refl,
                    (
                      refl,
                      ((0x23 ∷ []), (0x20 ∷ 0x63 ∷ []), refl, refl, refl),
                      refl,
                      (refl, (inl refl), tt, (refl, (omega arith, refl), tt, tt)),
                    ),
                  );
                  nested = (
                    record {
                      key = record { first = (refl, (omega arith, refl)); more = tt };
                      before = (refl, (omega arith, refl));
                      after = (refl, (omega arith, refl));
                    },
                    (refl, (integer_text_from (0x31 ∷ []) refl, record { sfits = omega arith })),
                    tt,
                    (
                      refl,
                      (omega arith, refl),
                      refl,
                      (
                        refl,
                        ((0x23 ∷ []), (0x20 ∷ 0x64 ∷ []), refl, refl, refl),
                        refl,
                        (refl, (inl refl), tt, (refl, (omega arith, refl), tt, tt)),
                      ),
                    ),
                    (refl, (omega arith, refl), tt, tt),
                    (
                      record {
                        key = record {
                          first = (refl, (omega arith, refl));
                          more = (record { before = tt; after = tt; part = (refl, (omega arith, refl)) }, tt);
                        };
                        before = (refl, (omega arith, refl));
                        after = (refl, (omega arith, refl));
                      },
                      tt,
                      (
                        tt,
                        tt,
                        tt,
                        tt,
                        (refl, (omega arith, refl), tt, tt),
                        (tt, (refl, (inl refl), tt, tt), tt, tt, tt, tt),
                      ),
                      (refl, (omega arith, refl), tt, tt),
                      ((refl, (omega arith, refl), refl, (refl, (inl refl), tt, tt)), tt),
                      tt,
                    ),
                  );
                },
              );
              after = tt;
              comment = tt;
            };
            kind = refl;
            newline = (inl refl);
          },
          tt,
        );
        last = record {
          before = tt;
          content = (
            record {
              key = record { first = (refl, (omega arith, refl)); more = tt };
              before = (refl, (omega arith, refl));
              after = (refl, (omega arith, refl));
            },
            record { body = (refl, (integer_text_from (0x32 ∷ []) refl, record { sfits = omega arith })); nested = tt },
          );
          after = tt;
          comment = tt;
        };
      };
      spelled = refl;
      shallow = omega arith;
    }

doc18_tokens : tokens doc18 ≡ record { leaf = leaf.BareKey; at = 0; text = (0x61 ∷ []) }
    ∷ record { leaf = leaf.Ws; at = 1; text = (0x20 ∷ []) } ∷ record { leaf = leaf.Equals; at = 2; text = (0x3D ∷ []) }
    ∷ record { leaf = leaf.Ws; at = 3; text = (0x20 ∷ []) }
    ∷ record { leaf = leaf.InlineOpen; at = 4; text = (0x7B ∷ []) }
    ∷ record { leaf = leaf.Ws; at = 5; text = (0x20 ∷ []) }
    ∷ record { leaf = leaf.Comment; at = 6; text = (0x23 ∷ 0x20 ∷ 0x63 ∷ []) }
    ∷ record { leaf = leaf.Newline; at = 9; text = (0x0A ∷ []) }
    ∷ record { leaf = leaf.Ws; at = 10; text = (0x20 ∷ []) }
    ∷ record { leaf = leaf.BareKey; at = 11; text = (0x78 ∷ []) }
    ∷ record { leaf = leaf.Ws; at = 12; text = (0x20 ∷ []) }
    ∷ record { leaf = leaf.Equals; at = 13; text = (0x3D ∷ []) }
    ∷ record { leaf = leaf.Ws; at = 14; text = (0x20 ∷ []) }
    ∷ record { leaf = leaf.Integer; at = 15; text = (0x31 ∷ []) }
    ∷ record { leaf = leaf.Ws; at = 16; text = (0x20 ∷ []) }
    ∷ record { leaf = leaf.Comment; at = 17; text = (0x23 ∷ 0x20 ∷ 0x64 ∷ []) }
    ∷ record { leaf = leaf.Newline; at = 20; text = (0x0A ∷ []) }
    ∷ record { leaf = leaf.Ws; at = 21; text = (0x20 ∷ []) } ∷ record { leaf = leaf.Comma; at = 22; text = (0x2C ∷ []) }
    ∷ record { leaf = leaf.Ws; at = 23; text = (0x20 ∷ []) }
    ∷ record { leaf = leaf.BareKey; at = 24; text = (0x79 ∷ []) }
    ∷ record { leaf = leaf.Dot; at = 25; text = (0x2E ∷ []) }
    ∷ record { leaf = leaf.BareKey; at = 26; text = (0x7A ∷ []) }
    ∷ record { leaf = leaf.Ws; at = 27; text = (0x20 ∷ []) }
    ∷ record { leaf = leaf.Equals; at = 28; text = (0x3D ∷ []) }
    ∷ record { leaf = leaf.Ws; at = 29; text = (0x20 ∷ []) }
    ∷ record { leaf = leaf.ArrayOpen; at = 30; text = (0x5B ∷ []) }
    ∷ record { leaf = leaf.InlineOpen; at = 31; text = (0x7B ∷ []) }
    ∷ record { leaf = leaf.InlineClose; at = 32; text = (0x7D ∷ []) }
    ∷ record { leaf = leaf.Comma; at = 33; text = (0x2C ∷ []) }
    ∷ record { leaf = leaf.Ws; at = 34; text = (0x20 ∷ []) }
    ∷ record { leaf = leaf.ArrayOpen; at = 35; text = (0x5B ∷ []) }
    ∷ record { leaf = leaf.Newline; at = 36; text = (0x0A ∷ []) }
    ∷ record { leaf = leaf.ArrayClose; at = 37; text = (0x5D ∷ []) }
    ∷ record { leaf = leaf.ArrayClose; at = 38; text = (0x5D ∷ []) }
    ∷ record { leaf = leaf.Ws; at = 39; text = (0x20 ∷ []) }
    ∷ record { leaf = leaf.Comma; at = 40; text = (0x2C ∷ []) }
    ∷ record { leaf = leaf.Ws; at = 41; text = (0x20 ∷ []) }
    ∷ record { leaf = leaf.Newline; at = 42; text = (0x0A ∷ []) }
    ∷ record { leaf = leaf.InlineClose; at = 43; text = (0x7D ∷ []) }
    ∷ record { leaf = leaf.Newline; at = 44; text = (0x0A ∷ []) }
    ∷ record { leaf = leaf.BareKey; at = 45; text = (0x62 ∷ []) }
    ∷ record { leaf = leaf.Ws; at = 46; text = (0x20 ∷ []) }
    ∷ record { leaf = leaf.Equals; at = 47; text = (0x3D ∷ []) }
    ∷ record { leaf = leaf.Ws; at = 48; text = (0x20 ∷ []) }
    ∷ record { leaf = leaf.Integer; at = 49; text = (0x32 ∷ []) }
    ∷ record { leaf = leaf.End; at = 50; text = ([]) } ∷ []
doc18_tokens = refl

doc18_statements : statements doc18
    ≡ record { kind = KeyVal; span = span 0 44; line = span 0 45; first_key = 0; keys = 1; value = Some 0 }
    ∷ record { kind = KeyVal; span = span 45 50; line = span 45 50; first_key = 4; keys = 1; value = Some 5 } ∷ []
doc18_statements = refl

doc18_parts : parts doc18 ≡ record { leaf = leaf.BareKey; span = span 0 1 }
    ∷ record { leaf = leaf.BareKey; span = span 11 12 } ∷ record { leaf = leaf.BareKey; span = span 24 25 }
    ∷ record { leaf = leaf.BareKey; span = span 26 27 } ∷ record { leaf = leaf.BareKey; span = span 45 46 } ∷ []
doc18_parts = refl

doc18_values : values doc18 ≡ record {
  leaf = leaf.InlineOpen;
  span = span 4 44;
  whole = span 0 44;
  owner = owner.Line 0;
  depth = 0;
  first_key = 0;
  keys = 1;
  comma_before = None;
  comma_after = None;
} ∷ record {
  leaf =
      leaf.Integer;
  span = span 15 16;
  whole = span 11 16;
  owner = owner.Inline 0;
  depth = 1;
  first_key = 1;
  keys = 1;
  comma_before = None;
  comma_after = Some 22;
} ∷ record {
  leaf =
      leaf.ArrayOpen;
  span = span 30 39;
  whole = span 24 39;
  owner = owner.Inline 0;
  depth = 1;
  first_key = 2;
  keys = 2;
  comma_before = Some 22;
  comma_after = Some 40;
} ∷ record {
  leaf =
      leaf.InlineOpen;
  span = span 31 33;
  whole = span 31 33;
  owner = owner.Item 2;
  depth = 2;
  first_key = 4;
  keys = 0;
  comma_before = None;
  comma_after = Some 33;
} ∷ record {
  leaf =
      leaf.ArrayOpen;
  span = span 35 38;
  whole = span 35 38;
  owner = owner.Item 2;
  depth = 2;
  first_key = 4;
  keys = 0;
  comma_before = Some 33;
  comma_after = None;
} ∷ record {
  leaf =
      leaf.Integer;
  span = span 49 50;
  whole = span 45 50;
  owner = owner.Line 1;
  depth = 0;
  first_key = 4;
  keys = 1;
  comma_before = None;
  comma_after = None;
} ∷ []
doc18_values = refl

doc18_depth : depth doc18 ≡ 3
doc18_depth = refl

-- b'a = [1, {b = 2}]'
abbrev doc19 : Document
doc19 = record {
  bom = false;
  ended = ([]);
  last = record {
    before = ([]);
    content =
        (keyval (record {
          key = record { first = record { leaf = leaf.BareKey; text = (0x61 ∷ []) }; more = ([]) };
          before = (record { leaf = leaf.Ws; text = (0x20 ∷ []) } ∷ []);
          after = (record { leaf = leaf.Ws; text = (0x20 ∷ []) } ∷ []);
        }) (record {
          body =
              array ([]);
          nested =
              (entry None (scalar (record { leaf = leaf.Integer; text = (0x31 ∷ []) })) none ([])
              (Some (record { leaf = leaf.Ws; text = (0x20 ∷ []) } ∷ []))
              (entry None (inline ([])) (entry
              (Some (record {
                key = record { first = record { leaf = leaf.BareKey; text = (0x62 ∷ []) }; more = ([]) };
                before = (record { leaf = leaf.Ws; text = (0x20 ∷ []) } ∷ []);
                after = (record { leaf = leaf.Ws; text = (0x20 ∷ []) } ∷ []);
              })) (scalar (record { leaf = leaf.Integer; text = (0x32 ∷ []) })) none ([]) None none) ([]) None none));
        }));
    after = ([]);
    comment = None;
  };
}

doc19_read : Reads Strict standard_depth
    (0x61 ∷ 0x20 ∷ 0x3D ∷ 0x20 ∷ 0x5B ∷ 0x31 ∷ 0x2C ∷ 0x20 ∷ 0x7B ∷ 0x62 ∷ 0x20 ∷ 0x3D ∷ 0x20 ∷ 0x32 ∷ 0x7D ∷ 0x5D ∷ [])
    doc19
doc19_read =
    record {
      valid = record {
        ended = tt;
        last = record {
          before = tt;
          content = (
            record {
              key = record { first = (refl, (omega arith, refl)); more = tt };
              before = (refl, (omega arith, refl));
              after = (refl, (omega arith, refl));
            },
            record {
              body = tt;
              nested = (
                tt,
                (refl, (integer_text_from (0x31 ∷ []) refl, record { sfits = omega arith })),
                tt,
                tt,
                (refl, (omega arith, refl), tt, tt),
                (
                  tt,
                  tt,
                  (
                    record {
                      key = record { first = (refl, (omega arith, refl)); more = tt };
                      before = (refl, (omega arith, refl));
                      after = (refl, (omega arith, refl));
                    },
                    (refl, (integer_text_from (0x32 ∷ []) refl, record { sfits = omega arith })),
                    tt,
                    tt,
                    tt,
                    tt,
                  ),
                  tt,
                  tt,
                  tt,
                ),
              );
            },
          );
          after = tt;
          comment = tt;
        };
      };
      spelled = refl;
      shallow = omega arith;
    }

doc19_tokens : tokens doc19 ≡ record { leaf = leaf.BareKey; at = 0; text = (0x61 ∷ []) }
    ∷ record { leaf = leaf.Ws; at = 1; text = (0x20 ∷ []) } ∷ record { leaf = leaf.Equals; at = 2; text = (0x3D ∷ []) }
    ∷ record { leaf = leaf.Ws; at = 3; text = (0x20 ∷ []) }
    ∷ record { leaf = leaf.ArrayOpen; at = 4; text = (0x5B ∷ []) }
    ∷ record { leaf = leaf.Integer; at = 5; text = (0x31 ∷ []) }
    ∷ record { leaf = leaf.Comma; at = 6; text = (0x2C ∷ []) } ∷ record { leaf = leaf.Ws; at = 7; text = (0x20 ∷ []) }
    ∷ record { leaf = leaf.InlineOpen; at = 8; text = (0x7B ∷ []) }
    ∷ record { leaf = leaf.BareKey; at = 9; text = (0x62 ∷ []) }
    ∷ record { leaf = leaf.Ws; at = 10; text = (0x20 ∷ []) }
    ∷ record { leaf = leaf.Equals; at = 11; text = (0x3D ∷ []) }
    ∷ record { leaf = leaf.Ws; at = 12; text = (0x20 ∷ []) }
    ∷ record { leaf = leaf.Integer; at = 13; text = (0x32 ∷ []) }
    ∷ record { leaf = leaf.InlineClose; at = 14; text = (0x7D ∷ []) }
    ∷ record { leaf = leaf.ArrayClose; at = 15; text = (0x5D ∷ []) } ∷ record { leaf = leaf.End; at = 16; text = ([]) }
    ∷ []
doc19_tokens = refl

doc19_statements : statements doc19
    ≡ record { kind = KeyVal; span = span 0 16; line = span 0 16; first_key = 0; keys = 1; value = Some 0 } ∷ []
doc19_statements = refl

doc19_parts : parts doc19 ≡ record { leaf = leaf.BareKey; span = span 0 1 }
    ∷ record { leaf = leaf.BareKey; span = span 9 10 } ∷ []
doc19_parts = refl

doc19_values : values doc19 ≡ record {
  leaf = leaf.ArrayOpen;
  span = span 4 16;
  whole = span 0 16;
  owner = owner.Line 0;
  depth = 0;
  first_key = 0;
  keys = 1;
  comma_before = None;
  comma_after = None;
} ∷ record {
  leaf =
      leaf.Integer;
  span = span 5 6;
  whole = span 5 6;
  owner = owner.Item 0;
  depth = 1;
  first_key = 1;
  keys = 0;
  comma_before = None;
  comma_after = Some 6;
} ∷ record {
  leaf =
      leaf.InlineOpen;
  span = span 8 15;
  whole = span 8 15;
  owner = owner.Item 0;
  depth = 1;
  first_key = 1;
  keys = 0;
  comma_before = Some 6;
  comma_after = None;
} ∷ record {
  leaf =
      leaf.Integer;
  span = span 13 14;
  whole = span 9 14;
  owner = owner.Inline 2;
  depth = 2;
  first_key = 1;
  keys = 1;
  comma_before = None;
  comma_after = None;
} ∷ []
doc19_values = refl

doc19_depth : depth doc19 ≡ 2
doc19_depth = refl

abbrev nought : Start
nought = record { at = 0; values = 0; parts = 0; owner = owner.Line 0; depth = 0; comma = None }

-- the value b'{x=1,x=2}'
abbrev val0 : Value
val0 = record {
  body = inline ([]);
  nested =
      (entry (Some (record {
        key = record { first = record { leaf = leaf.BareKey; text = (0x78 ∷ []) }; more = ([]) };
        before = ([]);
        after = ([]);
      })) (scalar (record { leaf = leaf.Integer; text = (0x31 ∷ []) })) none ([]) (Some ([]))
      (entry (Some (record {
        key = record { first = record { leaf = leaf.BareKey; text = (0x78 ∷ []) }; more = ([]) };
        before = ([]);
        after = ([]);
      })) (scalar (record { leaf = leaf.Integer; text = (0x32 ∷ []) })) none ([]) None none));
}

val0_read : ReadsValue Strict standard_depth (0x7B ∷ 0x78 ∷ 0x3D ∷ 0x31 ∷ 0x2C ∷ 0x78 ∷ 0x3D ∷ 0x32 ∷ 0x7D ∷ []) val0
val0_read =
    record {
      valid = record {
        body = tt;
        nested = (
          record { key = record { first = (refl, (omega arith, refl)); more = tt }; before = tt; after = tt },
          (refl, (integer_text_from (0x31 ∷ []) refl, record { sfits = omega arith })),
          tt,
          tt,
          tt,
          (
            record { key = record { first = (refl, (omega arith, refl)); more = tt }; before = tt; after = tt },
            (refl, (integer_text_from (0x32 ∷ []) refl, record { sfits = omega arith })),
            tt,
            tt,
            tt,
            tt,
          ),
        );
      };
      spelled = refl;
      shallow = omega arith;
    }

val0_values : value_values nought 0 0 val0
    ≡ record {
      leaf = leaf.InlineOpen;
      span = span 0 9;
      whole = span 0 9;
      owner = owner.Line 0;
      depth = 0;
      first_key = 0;
      keys = 0;
      comma_before = None;
      comma_after = None;
    } ∷ record {
      leaf =
          leaf.Integer;
      span = span 3 4;
      whole = span 1 4;
      owner = owner.Inline 0;
      depth = 1;
      first_key = 0;
      keys = 1;
      comma_before = None;
      comma_after = Some 4;
    } ∷ record {
      leaf =
          leaf.Integer;
      span = span 7 8;
      whole = span 5 8;
      owner = owner.Inline 0;
      depth = 1;
      first_key = 1;
      keys = 1;
      comma_before = Some 4;
      comma_after = None;
    } ∷ []
val0_values = refl

val0_parts : entries_parts (nested_start 0 val0.body) val0.nested ≡ record { leaf = leaf.BareKey; span = span 1 2 }
    ∷ record { leaf = leaf.BareKey; span = span 5 6 } ∷ []
val0_parts = refl

-- the value b"[1, { a.b = [ 2 ] }, 'x' ,]"
abbrev val1 : Value
val1 = record {
  body = array ([]);
  nested =
      (entry None (scalar (record { leaf = leaf.Integer; text = (0x31 ∷ []) })) none ([])
      (Some (record { leaf = leaf.Ws; text = (0x20 ∷ []) } ∷ []))
      (entry None (inline (record { leaf = leaf.Ws; text = (0x20 ∷ []) } ∷ []))
      (entry (Some (record {
        key = record {
          first = record { leaf = leaf.BareKey; text = (0x61 ∷ []) };
          more = (record { before = ([]); after = ([]); part = record { leaf = leaf.BareKey; text = (0x62 ∷ []) } }
              ∷ []);
        };
        before = (record { leaf = leaf.Ws; text = (0x20 ∷ []) } ∷ []);
        after = (record { leaf = leaf.Ws; text = (0x20 ∷ []) } ∷ []);
      })) (array (record { leaf = leaf.Ws; text = (0x20 ∷ []) } ∷ []))
      (entry None (scalar (record { leaf = leaf.Integer; text = (0x32 ∷ []) })) none
      (record { leaf = leaf.Ws; text = (0x20 ∷ []) } ∷ []) None none)
      (record { leaf = leaf.Ws; text = (0x20 ∷ []) } ∷ []) None none) ([])
      (Some (record { leaf = leaf.Ws; text = (0x20 ∷ []) } ∷ []))
      (entry None (scalar (record { leaf = leaf.Literal; text = (0x27 ∷ 0x78 ∷ 0x27 ∷ []) })) none
      (record { leaf = leaf.Ws; text = (0x20 ∷ []) } ∷ []) (Some ([])) none)));
}

val1_read : ReadsValue Strict standard_depth
    (0x5B ∷ 0x31 ∷ 0x2C ∷ 0x20 ∷ 0x7B ∷ 0x20 ∷ 0x61 ∷ 0x2E ∷ 0x62 ∷ 0x20 ∷ 0x3D ∷ 0x20 ∷ 0x5B ∷ 0x20 ∷ 0x32 ∷ 0x20
    ∷ 0x5D ∷ 0x20 ∷ 0x7D ∷ 0x2C ∷ 0x20 ∷ 0x27 ∷ 0x78 ∷ 0x27 ∷ 0x20 ∷ 0x2C ∷ 0x5D ∷ []) val1
val1_read =
    record {
      valid = record {
        body = tt;
        nested = (
          tt,
          (refl, (integer_text_from (0x31 ∷ []) refl, record { sfits = omega arith })),
          tt,
          tt,
          (refl, (omega arith, refl), tt, tt),
          (
            tt,
            (refl, (omega arith, refl)),
            (
              record {
                key = record {
                  first = (refl, (omega arith, refl));
                  more = (record { before = tt; after = tt; part = (refl, (omega arith, refl)) }, tt);
                };
                before = (refl, (omega arith, refl));
                after = (refl, (omega arith, refl));
              },
              (refl, (omega arith, refl), tt, tt),
              (
                tt,
                (refl, (integer_text_from (0x32 ∷ []) refl, record { sfits = omega arith })),
                tt,
                (refl, (omega arith, refl), tt, tt),
                tt,
                tt,
              ),
              (refl, (omega arith, refl)),
              tt,
              tt,
            ),
            tt,
            (refl, (omega arith, refl), tt, tt),
            (
              tt,
              (refl, ((Plain 0x78 ∷ []), record { spelled = refl; each = (refl, tt) })),
              tt,
              (refl, (omega arith, refl), tt, tt),
              (tt, tt),
              tt,
            ),
          ),
        );
      };
      spelled = refl;
      shallow = omega arith;
    }

val1_values : value_values nought 0 0 val1
    ≡ record {
      leaf = leaf.ArrayOpen;
      span = span 0 27;
      whole = span 0 27;
      owner = owner.Line 0;
      depth = 0;
      first_key = 0;
      keys = 0;
      comma_before = None;
      comma_after = None;
    } ∷ record {
      leaf =
          leaf.Integer;
      span = span 1 2;
      whole = span 1 2;
      owner = owner.Item 0;
      depth = 1;
      first_key = 0;
      keys = 0;
      comma_before = None;
      comma_after = Some 2;
    } ∷ record {
      leaf =
          leaf.InlineOpen;
      span = span 4 19;
      whole = span 4 19;
      owner = owner.Item 0;
      depth = 1;
      first_key = 0;
      keys = 0;
      comma_before = Some 2;
      comma_after = Some 19;
    } ∷ record {
      leaf =
          leaf.ArrayOpen;
      span = span 12 17;
      whole = span 6 17;
      owner = owner.Inline 2;
      depth = 2;
      first_key = 0;
      keys = 2;
      comma_before = None;
      comma_after = None;
    } ∷ record {
      leaf =
          leaf.Integer;
      span = span 14 15;
      whole = span 14 15;
      owner = owner.Item 3;
      depth = 3;
      first_key = 2;
      keys = 0;
      comma_before = None;
      comma_after = None;
    } ∷ record {
      leaf =
          leaf.Literal;
      span = span 21 24;
      whole = span 21 24;
      owner = owner.Item 0;
      depth = 1;
      first_key = 2;
      keys = 0;
      comma_before = Some 19;
      comma_after = Some 25;
    } ∷ []
val1_values = refl

val1_parts : entries_parts (nested_start 0 val1.body) val1.nested ≡ record { leaf = leaf.BareKey; span = span 6 7 }
    ∷ record { leaf = leaf.BareKey; span = span 8 9 } ∷ []
val1_parts = refl

-- the value b'true'
abbrev val2 : Value
val2 = record { body = scalar (record { leaf = leaf.Boolean; text = (0x74 ∷ 0x72 ∷ 0x75 ∷ 0x65 ∷ []) }); nested = none }

val2_read : ReadsValue Strict standard_depth (0x74 ∷ 0x72 ∷ 0x75 ∷ 0x65 ∷ []) val2
val2_read = record { valid = record { body = (refl, (inl refl)); nested = tt }; spelled = refl; shallow = omega arith }

val2_values : value_values nought 0 0 val2
    ≡ record {
      leaf = leaf.Boolean;
      span = span 0 4;
      whole = span 0 4;
      owner = owner.Line 0;
      depth = 0;
      first_key = 0;
      keys = 0;
      comma_before = None;
      comma_after = None;
    } ∷ []
val2_values = refl

val2_parts : entries_parts (nested_start 0 val2.body) val2.nested ≡ []
val2_parts = refl

-- the value b'{ a = {b = 1}, c = 2\n,}'
abbrev val3 : Value
val3 = record {
  body = inline (record { leaf = leaf.Ws; text = (0x20 ∷ []) } ∷ []);
  nested =
      (entry (Some (record {
        key = record { first = record { leaf = leaf.BareKey; text = (0x61 ∷ []) }; more = ([]) };
        before = (record { leaf = leaf.Ws; text = (0x20 ∷ []) } ∷ []);
        after = (record { leaf = leaf.Ws; text = (0x20 ∷ []) } ∷ []);
      })) (inline ([])) (entry (Some
      (record {
        key = record { first = record { leaf = leaf.BareKey; text = (0x62 ∷ []) }; more = ([]) };
        before = (record { leaf = leaf.Ws; text = (0x20 ∷ []) } ∷ []);
        after = (record { leaf = leaf.Ws; text = (0x20 ∷ []) } ∷ []);
      })) (scalar (record { leaf = leaf.Integer; text = (0x31 ∷ []) })) none ([]) None none) ([])
      (Some (record { leaf = leaf.Ws; text = (0x20 ∷ []) } ∷ []))
      (entry (Some (record {
        key = record { first = record { leaf = leaf.BareKey; text = (0x63 ∷ []) }; more = ([]) };
        before = (record { leaf = leaf.Ws; text = (0x20 ∷ []) } ∷ []);
        after = (record { leaf = leaf.Ws; text = (0x20 ∷ []) } ∷ []);
      })) (scalar (record { leaf = leaf.Integer; text = (0x32 ∷ []) })) none
      (record { leaf = leaf.Newline; text = (0x0A ∷ []) } ∷ []) (Some ([])) none));
}

val3_read : ReadsValue Wide standard_depth
    (0x7B ∷ 0x20 ∷ 0x61 ∷ 0x20 ∷ 0x3D ∷ 0x20 ∷ 0x7B ∷ 0x62 ∷ 0x20 ∷ 0x3D ∷ 0x20 ∷ 0x31 ∷ 0x7D ∷ 0x2C ∷ 0x20 ∷ 0x63
    ∷ 0x20 ∷ 0x3D ∷ 0x20 ∷ 0x32 ∷ 0x0A ∷ 0x2C ∷ 0x7D ∷ []) val3
val3_read =
    record {
      valid = record {
        body = (refl, (omega arith, refl), tt, tt);
        nested = (
          record {
            key = record { first = (refl, (omega arith, refl)); more = tt };
            before = (refl, (omega arith, refl));
            after = (refl, (omega arith, refl));
          },
          tt,
          (
            record {
              key = record { first = (refl, (omega arith, refl)); more = tt };
              before = (refl, (omega arith, refl));
              after = (refl, (omega arith, refl));
            },
            (refl, (integer_text_from (0x31 ∷ []) refl, record { sfits = omega arith })),
            tt,
            tt,
            tt,
            tt,
          ),
          tt,
          (refl, (omega arith, refl), tt, tt),
          (
            record {
              key = record { first = (refl, (omega arith, refl)); more = tt };
              before = (refl, (omega arith, refl));
              after = (refl, (omega arith, refl));
            },
            (refl, (integer_text_from (0x32 ∷ []) refl, record { sfits = omega arith })),
            tt,
            (refl, (inl refl), tt, tt),
            (tt, tt),
            tt,
          ),
        );
      };
      spelled = refl;
      shallow = omega arith;
    }

val3_values : value_values nought 0 0 val3
    ≡ record {
      leaf = leaf.InlineOpen;
      span = span 0 23;
      whole = span 0 23;
      owner = owner.Line 0;
      depth = 0;
      first_key = 0;
      keys = 0;
      comma_before = None;
      comma_after = None;
    } ∷ record {
      leaf =
          leaf.InlineOpen;
      span = span 6 13;
      whole = span 2 13;
      owner = owner.Inline 0;
      depth = 1;
      first_key = 0;
      keys = 1;
      comma_before = None;
      comma_after = Some 13;
    } ∷ record {
      leaf =
          leaf.Integer;
      span = span 11 12;
      whole = span 7 12;
      owner = owner.Inline 1;
      depth = 2;
      first_key = 1;
      keys = 1;
      comma_before = None;
      comma_after = None;
    } ∷ record {
      leaf =
          leaf.Integer;
      span = span 19 20;
      whole = span 15 20;
      owner = owner.Inline 0;
      depth = 1;
      first_key = 2;
      keys = 1;
      comma_before = Some 13;
      comma_after = Some 21;
    } ∷ []
val3_values = refl

val3_parts : entries_parts (nested_start 0 val3.body) val3.nested ≡ record { leaf = leaf.BareKey; span = span 2 3 }
    ∷ record { leaf = leaf.BareKey; span = span 7 8 } ∷ record { leaf = leaf.BareKey; span = span 15 16 } ∷ []
val3_parts = refl
