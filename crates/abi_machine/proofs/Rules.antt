-- The rules of the machine, which a closed run computes with, under one name.
use Rattle.stream_ends.specs.Meeting.{met}
use Rattle.future_ends.specs.Meeting.{met as met_once}
use Rattle.abi_machine.specs.Calling.{call_begun, call_resolved, call_open, back_from_call}
use Rattle.abi_machine.specs.Cancelling.{asked_turn, cancelled_turn, cancel_open, back_from_cancel, back_to, back_turn}
use Rattle.abi_machine.specs.Choosing.{chosen}
use Rattle.abi_machine.specs.Copying.{elements_written, elements_read, moved_by, elements_moved, meeting_turn, meets, transferring_turn}
use Rattle.abi_machine.specs.CoreSteps.{func_ended, stack_ended, ended_over, moved, running_turn}
use Rattle.abi_machine.specs.Delivering.{callback_started, received, received_none, received_cancel, entry_delivered, member_delivered, members_turn, delivering_turn, yield_cancelled, told_payload, told_result, wait_resumed, set_polled, next_resumed, loop_resumed, resumed, resuming_turn}
use Rattle.abi_machine.specs.Entering.{with_arguments, arguments_passed, arguments_turn, entered, arriving_turn}
use Rattle.abi_machine.specs.Instantiating.{started_up, made, action_turn, instantiating_turn}
use Rattle.abi_machine.specs.Looping.{next_turn, looping_turn}
use Rattle.abi_machine.specs.Lowering.{started, lowered, paused, settled_turn, lowers_turn}
use Rattle.abi_machine.specs.Nested.{nested_ended, answered_in_place, answered_or_refused, calls_host, hosted, nested_turn}
use Rattle.abi_machine.specs.Reply.{resource_turn, plain_turn, end_turn, builtin_turn, reply, exempt_turn, allowed, calling_turn}
use Rattle.abi_machine.specs.Returning.{result_passed, post_return, finished, passed_to, passed_on, resolves_to, resolves, returning_turn, ending_turn, leaving_turn}
use Rattle.abi_machine.specs.Scheduling.{call_taken, cancel_taken, item_turn, gone, going_turn, alternative_turn, one_of, free_turn, chosen_turn}
use Rattle.abi_machine.specs.replies.Pressure.{pressure_inc_turn, pressure_dec_turn, pressure_set_turn}
use Rattle.abi_machine.specs.replies.Resources.{resource_new_turn, destroyed_here, destroyed, dropped, resource_drop_turn}
use Rattle.abi_machine.specs.replies.Streams.{ends_added, channel_new_turn, placed_well, copy_turn, copy_cancel_turn, end_drop_turn}
use Rattle.abi_machine.specs.replies.Subtasks.{cancel_asked, subtask_cancel_turn, subtask_drop_turn}
use Rattle.abi_machine.specs.replies.Tasks.{return_checked, return_turn, task_cancel_turn, yield_turn}
use Rattle.abi_machine.specs.replies.Waiting.{set_new_turn, none_ready, by_ready, event_turn, wait_turn, set_drop_turn, joins, join_turn}

unfoldable pub the_rules : Unit {0}
unfolding met met_once call_begun call_resolved call_open back_from_call asked_turn cancelled_turn cancel_open back_from_cancel back_to back_turn chosen elements_written elements_read moved_by elements_moved meeting_turn meets transferring_turn func_ended stack_ended ended_over moved running_turn callback_started received received_none received_cancel entry_delivered member_delivered members_turn delivering_turn yield_cancelled told_payload told_result wait_resumed set_polled next_resumed loop_resumed resumed resuming_turn with_arguments arguments_passed arguments_turn entered arriving_turn started_up made action_turn instantiating_turn next_turn looping_turn started lowered paused settled_turn lowers_turn nested_ended answered_in_place answered_or_refused calls_host hosted nested_turn resource_turn plain_turn end_turn builtin_turn reply exempt_turn allowed calling_turn result_passed post_return finished passed_to passed_on resolves_to resolves returning_turn ending_turn leaving_turn call_taken cancel_taken item_turn gone going_turn alternative_turn one_of free_turn chosen_turn pressure_inc_turn pressure_dec_turn pressure_set_turn resource_new_turn destroyed_here destroyed dropped resource_drop_turn ends_added channel_new_turn placed_well copy_turn copy_cancel_turn end_drop_turn cancel_asked subtask_cancel_turn subtask_drop_turn return_checked return_turn task_cancel_turn yield_turn set_new_turn none_ready by_ready event_turn wait_turn set_drop_turn joins join_turn
the_rules = tt
