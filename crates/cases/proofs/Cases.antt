-- Every case is as the paper says: the checker computes them, but for the two books at the limit of 60,000 bytes.
use Prim.Native.Nat.{ℕ}
use mathlib.Core.Path.{refl}
use mathlib.Core.List.{List, [], ◌∷◌, ◌++◌, flatten}
use Rattle.answer.specs.Answer.{◌>>=◌, refuse, is_refused, number, place, unpositioned, then_at, kept, first_refused}
use Rattle.answer.specs.Walk.{walk}
use Rattle.input.specs.Bytes.{byte_at, two}
use Rattle.output.specs.Written.{two_bytes, written}
use Rattle.terms.specs.Sections.{sections_of}
use Rattle.terms.specs.Schema.{out_of_range, parent_at, relation_at, move_at, schema, typed_objects, suits_within, kind_suits, object_bad}
use Rattle.terms.specs.Facts.{fact_at, fact_bad, precedes, same_fact, same_facts, no_fact, fact_number}
use Rattle.terms.specs.Steps.{object_of, step_at, argument_bad, step_bad, same_pair, repeats, atom_relation, atom_first, atom_second, parameter_fills, is_atom, placed, ground}
use Rattle.format.specs.Header.{length_bad, counts_bad, offsets_bad, parent_bad, kind_bad, relation_bad, move_bad, parent, relation, move, sections}
use Rattle.format.specs.Toggled.{toggle, toggled}
use Rattle.format.specs.Form.{most_listed, state_after}
use Rattle.format.specs.States.{cut, count_bad, fact_refused, facts, list, next_state}
use Rattle.format.specs.Records.{objects_in, steps_in, length_in, head_bad, record_head, object, step_refused, failed_changes, step, steps, objects_of, trajectory, closed, body, record_at}
use Rattle.format.specs.LookOver.{step_total, all_records, look_over_by, look_over}
use Rattle.format.specs.Lists.{facts_at, list_at, list_end}
use Rattle.format.specs.Decode.{recorded_step, recorded_steps_at, steps_of_record, steps_of_records, recorded_steps}
use Rattle.format.specs.Order.{object_count, start_count, goal_count, step_count, start_at, goal_at, steps_at, order_counts_bad, order_offsets_bad, order_header, order_objects, order_object, starts_form, entry_bad, entries, plan_step_bad, plan_step, from_goal, from_start, order_form, starts_from, starts, entry_at, goal_from, goal, plan_from, plan}
use Rattle.mask.specs.Sets.{mask_of}
use Rattle.quantify.specs.Quantify.{same, below, any, chosen, has, later, first, least}
use Rattle.model.specs.Model.{image, inapplicable, next, run}
use Rattle.model.specs.Judge.{wrong}
use Rattle.model.specs.Check.{refuted}
use Rattle.model.specs.Learned.{saw, before, after, turned, learned_rules, model_of, learned, unbound_effect, conflicting}
use Rattle.jobs.specs.Planning.{domain, ground_action, transition, failed, goal_entry, went_steps, failed_steps, schema_of, steps_of_book, transitions_of, start_states, plan_of, goal_of}
use Rattle.jobs.specs.Learn.{unbound_effects, conflict_answer, conflicting_move, learnable, rule_block, rule_blocks, learned_from, rule_sheet, learn, learn_bytes, inconsistency, rules_from, refuted_steps, refutation}
use Rattle.jobs.specs.Check.{plan_run, order_run, goal_answer, run_answer, start_answer, first_failing, starts_answer, before_plan, check, end_sheet, end_after, check_bytes}
use Rattle.jobs.specs.Add.{added, add, add_bytes}
use Rattle.jobs.specs.Convert.{facts_bytes, list_bytes, step_bytes, listed, steps_bytes, bytes_at, body_bytes, record_bytes, records_bytes, all_records_bytes, converted, convert, convert_bytes, filed_step_bytes}
use Rattle.jobs.specs.Listing.{digits, decimal, refused_line, need_letter, effect_letter, param_shown, atom_front, atom_line, line_if_atom, atom_lines, move_lines, counts_line, rules_lines, rules_printed, plan_line, plan_printed}
use Rattle.cases.specs.Marked.{Case, marked}
use Rattle.cases.specs.Further.{kinds_under, several_starts}
use Rattle.cases.specs.Shorts.{short_books}
use Rattle.cases.specs.Adding.{records_added}
use Rattle.cases.specs.Stepless.{records_of_nothing}
use Rattle.cases.specs.Sequences.{filed_late}
use Rattle.cases.specs.Cases.{cases, AllRight}
use Rattle.cases.proofs.LongBook.{long_right, longer_right}
use Rattle.format.specs.Filed.{went_at, unmarked, filed_step_at, filed_fact}
use Rattle.jobs.specs.Alone.{start_size, goal_alone, left_alone, alone_at, alone_from, alone}
use Rattle.cases.specs.EachStart.{starts_alone}
use Rattle.cases.specs.EndSheet.{right_bits}
use Rattle.cases.specs.NotGone.{learned_without, never_went, needs_met, needs_met_late, states_differ, marked_steps, mark_kept, not_gone}
use Rattle.factsets.specs.Holding.{holding}

-- The definitions that are computed: `unfolding opened` opens them all. Its value is not used.
unfoldable opened : ℕ
unfolding ◌>>=◌ refuse number place walk byte_at two sections_of out_of_range parent_at relation_at move_at schema typed_objects suits_within kind_suits object_bad fact_at fact_bad precedes no_fact fact_number object_of step_at argument_bad step_bad same_pair repeats atom_relation atom_first atom_second parameter_fills is_atom placed ground length_bad counts_bad offsets_bad parent_bad kind_bad relation_bad move_bad parent relation move sections cut count_bad fact_refused facts list next_state most_listed state_after toggle toggled objects_in steps_in length_in head_bad record_head object step_refused step steps objects_of trajectory closed body record_at step_total all_records look_over_by look_over facts_at list_at list_end recorded_step recorded_steps_at steps_of_record steps_of_records recorded_steps object_count start_count goal_count step_count start_at goal_at steps_at order_counts_bad order_offsets_bad order_header order_objects order_object entry_bad entries plan_step_bad plan_step from_goal starts_form from_start order_form starts_from starts entry_at goal_from goal plan_from plan mask_of same below any has later first least image inapplicable next run wrong saw before after turned learned unbound_effect conflicting domain holding ground_action transition goal_entry schema_of steps_of_book transitions_of start_states plan_of goal_of unbound_effects conflict_answer conflicting_move learnable rule_block rule_blocks learned_from rule_sheet learn kept learn_bytes plan_run order_run goal_answer run_answer start_answer first_failing starts_answer before_plan check end_sheet end_after check_bytes is_refused unpositioned then_at two_bytes added add add_bytes facts_bytes list_bytes step_bytes listed steps_bytes bytes_at body_bytes record_bytes records_bytes all_records_bytes converted convert convert_bytes digits decimal refused_line need_letter effect_letter param_shown atom_front atom_line line_if_atom atom_lines move_lines counts_line rules_lines rules_printed plan_line plan_printed first_refused inconsistency filed_step_at filed_step_bytes learned_rules model_of rules_from written start_size goal_alone left_alone alone_at alone_from alone flatten filed_fact went_at unmarked same_fact same_facts failed_changes chosen went_steps failed_steps failed refuted refuted_steps refutation Rattle.jobs.specs.Convert.marked
opened = 0

-- One declaration for each list that `cases` and `not_gone` join: the checker computes at most 50,000,000 steps in one.
marked_right : AllRight marked
unfolding AllRight opened
marked_right = (refl, (refl, (refl, (refl, (refl, (refl, (refl, (refl, (refl, (refl, (refl, (refl, (refl, (refl, (refl, (refl, (refl, (refl, (refl, (refl, (long_right, (longer_right, tt))))))))))))))))))))))

kinds_under_right : AllRight kinds_under
unfolding AllRight opened
kinds_under_right = (refl, (refl, (refl, (refl, (refl, (refl, (refl, (refl, (refl, (refl, (refl, (refl, (refl, (refl, (refl, (refl, (refl, (refl, tt))))))))))))))))))

several_starts_right : AllRight several_starts
unfolding AllRight opened
several_starts_right = (refl, (refl, (refl, (refl, (refl, (refl, (refl, (refl, (refl, (refl, (refl, (refl, (refl, (refl, (refl, tt)))))))))))))))

short_books_right : AllRight short_books
unfolding AllRight opened
short_books_right = (refl, (refl, (refl, (refl, (refl, (refl, (refl, (refl, (refl, (refl, (refl, (refl, (refl, (refl, (refl, (refl, (refl, (refl, tt))))))))))))))))))

records_added_right : AllRight records_added
unfolding AllRight opened
records_added_right = (refl, (refl, (refl, (refl, (refl, tt)))))

records_of_nothing_right : AllRight records_of_nothing
unfolding AllRight opened
records_of_nothing_right = (refl, (refl, (refl, (refl, (refl, (refl, (refl, (refl, (refl, (refl, (refl, (refl, (refl, (refl, tt))))))))))))))

filed_late_right : AllRight filed_late
unfolding AllRight opened
filed_late_right = (refl, (refl, (refl, (refl, (refl, (refl, (refl, (refl, (refl, (refl, (refl, (refl, (refl, (refl, (refl, (refl, (refl, (refl, (refl, tt)))))))))))))))))))

starts_alone_right : AllRight starts_alone
unfolding AllRight opened
starts_alone_right = (refl, (refl, (refl, (refl, (refl, tt)))))

right_bits_right : AllRight right_bits
unfolding AllRight opened
right_bits_right = (refl, (refl, tt))

learned_without_right : AllRight learned_without
unfolding AllRight opened
learned_without_right = (refl, (refl, (refl, (refl, (refl, (refl, (refl, (refl, (refl, (refl, (refl, (refl, (refl, (refl, (refl, (refl, (refl, (refl, (refl, (refl, tt))))))))))))))))))))

never_went_right : AllRight never_went
unfolding AllRight opened
never_went_right = (refl, (refl, (refl, (refl, (refl, (refl, (refl, (refl, (refl, (refl, (refl, tt)))))))))))

needs_met_right : AllRight needs_met
unfolding AllRight opened
needs_met_right = (refl, (refl, (refl, (refl, (refl, (refl, (refl, (refl, (refl, (refl, (refl, (refl, (refl, (refl, (refl, (refl, tt))))))))))))))))

needs_met_late_right : AllRight needs_met_late
unfolding AllRight opened
needs_met_late_right = (refl, (refl, (refl, (refl, (refl, (refl, (refl, (refl, (refl, (refl, tt))))))))))

states_differ_right : AllRight states_differ
unfolding AllRight opened
states_differ_right = (refl, (refl, (refl, (refl, (refl, (refl, (refl, (refl, (refl, (refl, (refl, (refl, (refl, (refl, (refl, (refl, (refl, (refl, (refl, (refl, (refl, (refl, (refl, (refl, (refl, tt)))))))))))))))))))))))))

marked_steps_right : AllRight marked_steps
unfolding AllRight opened
marked_steps_right = (refl, (refl, (refl, (refl, (refl, (refl, (refl, (refl, (refl, (refl, (refl, tt)))))))))))

mark_kept_right : AllRight mark_kept
unfolding AllRight opened
mark_kept_right = (refl, (refl, (refl, (refl, (refl, (refl, (refl, (refl, (refl, (refl, (refl, (refl, (refl, (refl, (refl, (refl, (refl, (refl, (refl, tt)))))))))))))))))))

joined : (cs ds : List Case) → AllRight cs → AllRight ds → AllRight (cs ++ ds)
unfolding AllRight
joined [] ds l r = r
joined (c ∷ cs) ds (h, l) r = (h, joined cs ds l r)

not_gone_right : AllRight not_gone
not_gone_right =
    joined _ _ learned_without_right (joined _ _ never_went_right (joined _ _ needs_met_right (joined _ _ needs_met_late_right (joined _ _ states_differ_right (joined _ _ marked_steps_right mark_kept_right)))))

pub cases_right : AllRight cases
cases_right =
    joined _ _ marked_right
    (joined _ _ kinds_under_right
    (joined _ _ several_starts_right
    (joined _ _ short_books_right (joined _ _ records_added_right (joined _ _ records_of_nothing_right (joined _ _ filed_late_right (joined _ _ starts_alone_right (joined _ _ right_bits_right not_gone_right))))))))
