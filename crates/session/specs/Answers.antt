-- What a step answers, in 01's words: document 01, "Session": "one answer: go, send k (the out buffer's first k bytes), image (start in the set and
-- length), open i, bytes k (the delivery's first k), empty read, close i, finished, refused". For each case its place in that list and its values.
use Rattle.std.specs.Prelude.{ℕ, List}
use Rattle.base.specs.Told.{
  Told,
  told_go,
  told_send,
  told_image,
  told_open,
  told_bytes,
  told_empty_read,
  told_close,
  told_finished,
  told_refused,
}
use Rattle.refusal.specs.Refusal.{refusal_number}
use Rattle.verdict.specs.Verdict.{finish_number}
use Rattle.session.specs.Outcome.{Outcome}
use Rattle.session.specs.declared.Answer.{Answer}
use Rattle.session.specs.declared.Answer.TheVariants as A
use Rattle.session.specs.declared.Stepped.{Stepped}

abbrev pub answer_told : Answer → Told
answer_told A.Go = told_go
answer_told (A.Send k) = told_send k
answer_told (A.Image start k) = told_image start k
answer_told (A.Open i) = told_open i
answer_told (A.Bytes k) = told_bytes k
answer_told A.EmptyRead = told_empty_read
answer_told (A.Close i) = told_close i
answer_told (A.Finished how reads) = told_finished (finish_number how) reads
answer_told (A.Refused why) = told_refused (refusal_number why)

-- an answer's place and its values; finished has its number and the memory reads
abbrev pub answer_number : Answer → ℕ
answer_number a = (answer_told a).number

abbrev pub answer_values : Answer → List ℕ
answer_values a = (answer_told a).values

-- what a step tells, with the buffers or without
abbrev pub stepped_told : Stepped → Told
stepped_told r = answer_told r.answer

abbrev pub outcome_told : Outcome → Told
outcome_told x = stepped_told x.stepped
