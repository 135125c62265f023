-- The laws of replies that crates of data commands cite: how steps follow one another, and what words on a stack are. They are about the definitions of specs/ alone,
-- so no call's contract has them. The other files here are this crate's own.

-- What steps leave, one behind another.
pub use Rattle.tclv_reply.proofs.ReplyLemmas.{places_stay, stays_made, pushes, pushed_as, appended_to_none, grows_none, grows_kept, grows_pushed, grows_trans, grows_step, grows_more, keeps_none, keeps_trans, ends_on, ends_len}
-- Refusals before and behind other steps.
pub use Rattle.tclv_reply.proofs.ReplyLemmas.{refused_on, refused_after, told_refused}
pub use Rattle.tclv_reply.proofs.OptionSteps.{count_refused, reads_refused}
-- The end of a call.
pub use Rattle.tclv_reply.proofs.ReplyLemmas.{leaves_pushed, leaves_none, leaves_after, leaves_refusal, leaves_out_of_memory, moved_down, answered, answers_as, refused_answer, room, room_refused}
-- A row that is followed step by step.
pub use Rattle.tclv_reply.proofs.StepLemmas.{Went, HasRead, begun, read_on, refused_there, leaves_text, leaves_out, leaves_on, leaves_refused, leaves_there, answers_on, kept_on, went_kept, went_as, keeps_went, cells_text}
-- Words and texts on a stack.
pub use Rattle.tclv_reply.proofs.WordLemmas.{no_words, first_word, count_words, one_word, two_words, three_words, two_and_more, three_and_more}
pub use Rattle.tclv_reply.proofs.StackLemmas.{under_under, word_kept, words_step}
pub use Rattle.tclv_reply.proofs.MakingLemmas.{part_kept, words_part, list_pushed, leaves_list}
pub use Rattle.tclv_reply.proofs.TextLemmas.{ascii_from_test, ascii_points, ascii_text, bytes_are, points_are}
-- Lists and options.
pub use Rattle.tclv_reply.proofs.ListLemmas.{list_known, given_read, get_some, get_none, no_elements}
pub use Rattle.tclv_reply.proofs.OptionLemmas.{same_key, value_first, value_missing, word_first}
pub use Rattle.tclv_reply.proofs.OptionSteps.{word_same, value_step, missing_step, word_step}
-- Calls that are handed a variable.
pub use Rattle.tclv_reply.proofs.VariableLemmas.{get_put, put_same, cell_there, cell_text, cell_kept, no_text, var_refused, var_given, var_as, var_on}
