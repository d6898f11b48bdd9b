-- Document 01's own cases, and the errors it says were met, as theorems of the state table: each holds by computing. Assumes nothing.
use Rattle.std.specs.Prelude.{◌≡◌, refl, List, [], ◌∷◌, ◌++◌, ℕ, zero, suc, pos, negsuc}
use Rattle.refusal.specs.Answer.{Answer, returned, refused}
use Rattle.states.specs.declared.state.State.TheVariants.{TxStreaming}
use Rattle.states.specs.declared.request.Request.{Request}
use Rattle.states.specs.declared.request.Request.TheVariants.{Hello, Reset, Run, Begin, Commit, Pull}
use Rattle.states.specs.declared.answers.Outcome.TheVariants.{Success, Failure}
use Rattle.states.specs.declared.answers.Failure.TheVariants.{StreamsFull, EngineFailed}
use Rattle.states.specs.declared.answers.Summary.TheVariants as S
use Rattle.states.specs.Appendix.{new_state, hands_over, handed_somewhere, works}
use Rattle.states.specs.Table.{Call, arrive, take, report, Said, closed, answered, start, step, ignores, turn_of, is_full, names_open, success_streams, success_summary}
use Rattle.states.specs.Events.{said_by, run_t}

-- what a call answers after some others, from the fresh record
answers : List Call → Call → Answer Said
answers calls x = said_by (step (run_t start calls) x)

-- a request that comes, is handed over and succeeds
served : Request → List Call
served r = arrive r ∷ take ∷ report Success ∷ []

times : ℕ → List Call → List Call
times zero calls = []
times (suc n) calls = calls ++ times n calls

-- eight streams of a transaction
eight : List Call
eight = served Hello ++ (served Begin ++ times 8 (served Run))

-- "the 33rd arrival 17"
full-queue : answers (times 32 (arrive Run ∷ [])) (arrive Run) ≡ refused 17 0
unfolding answers times
full-queue = refl

-- "with eight streams open the ninth RUN fails"
full-streams : answers (eight ++ (arrive Run ∷ [])) take ≡ returned (answered (S.Failure StreamsFull) 11)
unfolding answers served times eight turn_of is_full names_open hands_over ignores new_state success_streams success_summary
full-streams = refl

-- "had one ended before it, it passes"
room-again : answers (eight ++ (served (Pull (negsuc 0) (pos 3)) ++ (arrive Run ∷ take ∷ []))) (report Success) ≡ returned (answered (S.Stream 8) 12)
unfolding answers served times eight turn_of is_full names_open hands_over ignores new_state success_streams success_summary
room-again = refl

-- "Keeping streams open after FAILED"
none_open_lem : (run_t start (eight ++ (arrive Run ∷ take ∷ []))).streams.numbers ≡ []
unfolding served times eight turn_of is_full names_open hands_over ignores new_state success_streams success_summary
none_open_lem = refl

-- "Sending the transaction to READY when one of two streams ends"
two-streams : (run_t start (served Hello ++ (served Begin ++ (served Run ++ (served Run ++ served (Pull (negsuc 0) (pos 0))))))).state ≡ TxStreaming
unfolding served turn_of is_full names_open hands_over ignores new_state success_streams success_summary
two-streams = refl

-- "Letting work ahead of a second RESET run"
two-resets : answers (served Hello ++ (arrive Reset ∷ arrive Run ∷ arrive Reset ∷ take ∷ [])) take ≡ returned (answered S.Ignored 3)
unfolding answers served turn_of is_full names_open hands_over handed_somewhere works ignores new_state success_streams success_summary
two-resets = refl

-- a HELLO that fails closes, with its summary
hello-fails : answers (arrive Hello ∷ take ∷ []) (report Failure) ≡ returned (answered (S.Failure EngineFailed) 1)
unfolding answers turn_of is_full names_open hands_over ignores new_state
hello-fails = refl

-- document 02, request 2: "Our driver sends BEGIN, RUN, PULL, COMMIT in one go", and the BEGIN fails
begin-fails : List Call
begin-fails = served Hello ++ (arrive Begin ∷ arrive Run ∷ arrive (Pull (negsuc 0) (negsuc 0)) ∷ arrive Commit ∷ take ∷ report Failure ∷ [])

-- "the COMMIT closes the connection": not any more
commit-ignored : answers (begin-fails ++ (take ∷ take ∷ [])) take ≡ returned (answered S.Ignored 5)
unfolding answers served begin-fails turn_of is_full names_open hands_over handed_somewhere works ignores new_state success_streams success_summary
commit-ignored = refl

-- "until READY", to which a RESET leads
begins-again : answers (begin-fails ++ (take ∷ take ∷ take ∷ arrive Reset ∷ take ∷ arrive Begin ∷ take ∷ [])) (report Success) ≡ returned (answered S.Success 7)
unfolding answers served begin-fails turn_of is_full names_open hands_over handed_somewhere works ignores new_state success_streams success_summary
begins-again = refl

-- "HELLO there still closes"
hello-closes : answers (served Hello ++ (arrive Run ∷ arrive Hello ∷ take ∷ report Failure ∷ [])) take ≡ returned closed
unfolding answers served turn_of is_full names_open hands_over handed_somewhere works ignores new_state success_streams success_summary
hello-closes = refl
