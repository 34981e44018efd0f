-- The lines between yes and no, computed: one statement over a single list; and the refusals, the same way.
use Prim.Native.Nat.{ℕ}
use mathlib.Core.Path.{◌≡◌, refl}
use mathlib.Core.List.{List, map, ◌++◌}
use Rattle.ground.specs.Lists.{every, all_of, total, joined, up_from, updated}
use Rattle.ground.specs.Regions.{zeros, blank, fits, pad, over, part}
use Rattle.ground.specs.Text.{bytes, same}
use Rattle.trit.specs.Trit.{not_of, and_of, or_of, xor_of, holds, count_of, carry_of}
use Rattle.trit.specs.Wide.{not_bits, pairs, adc_bits, clash, agree, some_clash, all_agree, eq_bit, ult_from, ult_bit, slt_from, slt_bit}
use Rattle.trit.specs.Mux.{mux_bits}
use Rattle.graph.specs.Graph.{mem, all_placed, ready, lowest_from, lowest, place, order_from, order, some, left_out}
use Rattle.kinds.specs.Kinds.{kind_at}
use Rattle.signs.specs.Bytes.{class_from, class_of, classes_from, table}
use Rattle.scanning.specs.Whole.{tail_of, bad_from, ends_in_feed, whole_of}
use Rattle.signs.specs.Pieces.{span_end, comment_end, inside_end, digits_from, numeral_at, suffix_at, string_from, quoted_at}
use Rattle.lexis.specs.Tokens.{meta_of, number_of, constant_of, cell_of, io_of, word_of, long_of, follows, token_from, token_at, inside_at}
use Rattle.brackets.specs.Words.{numbered}
use Rattle.brackets.specs.Parts.{next_part, concat_from, operand_at, parts_from, parts_at, next_member, set_from, members_from}
use Rattle.form.specs.Forms.{set_form, point_at, source_form, link_at, option_at, scope_form, ident_form, attr_form, meta_form, io_form, operand_if, meta_if, wiring_form, named_form, cell_form, body_form, open_form, form_at, form_of}
use Rattle.netlist.specs.Runs.{falling, known_bits, cut, longest}
use Rattle.netlist.specs.Rules.{taken, distinct, names_as, roomy, metas_sound, valid}
use Rattle.netlist.specs.Good.{laid, good, short, check_of, io_from, lookup_of}
use Rattle.saying.specs.Values.{row_from, copies, operand_runs}
use Rattle.saying.specs.Pieces.{operand_pieces, first_unresolved}
use Rattle.saying.specs.Rules.{said_by, added, first_misnamed, ruled_out}
use Rattle.declaring.specs.Reading.{declarations_from, netlist_of, read_sound, reading}
use Rattle.writing.specs.Decimal.{digits, places, signed}
use Rattle.writing.specs.Words.{text, number, hash, escaped, quoted, trits, reference, references, option}
use Rattle.operands.specs.Operands.{offset, width, runs}
use Rattle.numbering.specs.Numbers.{numbers_from}
use Rattle.celllines.specs.CellLines.{name_text, operand_text, cell_line, cell_lines}
use Rattle.lines.specs.Lines.{point, meta_lines, io_lines, lines, canonical}
use Rattle.loadlist.specs.Records.{records_in}
use Rattle.loadlist.specs.Check.{good_record, bad_record_from, bad_record, listed_of}
use Rattle.loadlist.specs.Run.{slots_from, outputs_in, run_of}
use Rattle.cells.specs.Operands.{cell_reads, bits_from}
use Rattle.cells.specs.Values.{kind_value, cell_value}
use Rattle.cells.specs.Records.{not_made, gate_made, mux_from, mux_made, adc_made, eq_from, eq_made, ult_made, slt_made, kind_made}
use Rattle.placing.specs.Placing.{outputs_from, placing_of, ringed}
use Rattle.evaluating.specs.Evaluation.{values_from, assigned, evaluation}
use Rattle.translating.specs.Translation.{input_records, input_slots, cell_records, cell_slots, output_records, translation, record_sum}
use Rattle.promises.specs.Asking.{Line, answer_to}
use Rattle.printing.specs.Outcome as print
use Rattle.naming.specs.Names as name
use Rattle.promises.specs.Lines.{marked_lines, other_lines}
use Rattle.promises.specs.Refusals.{refusals}
use Rattle.promises.specs.More.{more_lines}

-- THE LINES MARKED P hold of the definitions
pub lines_hold : map (λ (l : Line). answer_to l.ask) marked_lines ≡ map (λ (l : Line). l.answer) marked_lines
unfolding every all_of total joined up_from updated zeros blank fits pad over part bytes same not_of and_of or_of xor_of holds count_of carry_of not_bits pairs adc_bits clash agree some_clash all_agree eq_bit ult_from ult_bit slt_from slt_bit mux_bits mem all_placed ready lowest_from lowest place order_from order some left_out kind_at class_from class_of classes_from table tail_of bad_from ends_in_feed whole_of span_end comment_end inside_end digits_from numeral_at suffix_at string_from quoted_at meta_of number_of constant_of cell_of io_of word_of long_of follows token_from token_at inside_at numbered next_part concat_from operand_at parts_from parts_at next_member set_from members_from set_form point_at source_form link_at option_at scope_form ident_form attr_form meta_form io_form operand_if meta_if wiring_form named_form cell_form body_form open_form form_at form_of falling known_bits cut longest taken distinct names_as roomy metas_sound valid laid good short check_of io_from lookup_of row_from copies operand_runs operand_pieces said_by added first_misnamed ruled_out declarations_from first_unresolved netlist_of read_sound reading digits places signed text number hash escaped quoted trits reference offset width runs references option point meta_lines io_lines numbers_from name_text operand_text cell_line cell_lines lines canonical records_in good_record bad_record_from bad_record listed_of slots_from outputs_in run_of cell_reads bits_from kind_value cell_value not_made gate_made mux_from mux_made adc_made eq_from eq_made ult_made slt_made kind_made outputs_from placing_of ringed values_from assigned evaluation input_records input_slots cell_records cell_slots output_records translation record_sum answer_to print.written name.written name.name_from
lines_hold = refl

-- so do the other lines, a case for each refusal number, and more lines
pub refusals_hold : map (λ (l : Line). answer_to l.ask) (other_lines ++ (refusals ++ more_lines)) ≡ map (λ (l : Line). l.answer) (other_lines ++ (refusals ++ more_lines))
unfolding every all_of total joined up_from updated zeros blank fits pad over part bytes same not_of and_of or_of xor_of holds count_of carry_of not_bits pairs adc_bits clash agree some_clash all_agree eq_bit ult_from ult_bit slt_from slt_bit mux_bits mem all_placed ready lowest_from lowest place order_from order some left_out kind_at class_from class_of classes_from table tail_of bad_from ends_in_feed whole_of span_end comment_end inside_end digits_from numeral_at suffix_at string_from quoted_at meta_of number_of constant_of cell_of io_of word_of long_of follows token_from token_at inside_at numbered next_part concat_from operand_at parts_from parts_at next_member set_from members_from set_form point_at source_form link_at option_at scope_form ident_form attr_form meta_form io_form operand_if meta_if wiring_form named_form cell_form body_form open_form form_at form_of falling known_bits cut longest taken distinct names_as roomy metas_sound valid laid good short check_of io_from lookup_of row_from copies operand_runs operand_pieces said_by added first_misnamed ruled_out declarations_from first_unresolved netlist_of read_sound reading digits places signed text number hash escaped quoted trits reference offset width runs references option point meta_lines io_lines numbers_from name_text operand_text cell_line cell_lines lines canonical records_in good_record bad_record_from bad_record listed_of slots_from outputs_in run_of cell_reads bits_from kind_value cell_value not_made gate_made mux_from mux_made adc_made eq_from eq_made ult_made slt_made kind_made outputs_from placing_of ringed values_from assigned evaluation input_records input_slots cell_records cell_slots output_records translation record_sum answer_to print.written name.written name.name_from
refusals_hold = refl
