-- The bytes are no file where a piece of it is missing; else the request was read.
use Rattle.memory_loading.proofs.LoadedFiles.{rootless, requestless, endless, file_read}
use Rattle.memory_loading.proofs.read_file.Goals as goal

pub returns-in_err-root : goal.returns-in_err-root
returns-in_err-root c =
    rw c.from_residual.ensures
    (rootless _ c.file_starts.ensures c.past_blanks.ensures.place c.literal.ensures c.in_err-root.was c.requires)

pub returns-in_err-progress : goal.returns-in_err-progress
returns-in_err-progress c =
    rw c.from_residual-in_err-progress.ensures
    (requestless _ c.file_starts.ensures c.past_blanks.ensures.place c.literal.ensures c.in_ok-root.was
    c.past_blanks-2.ensures.place _ _ _ c.read_request.ensures c.in_err-progress.was)

pub returns-then-not-file_ends : goal.returns-then-not-file_ends
returns-then-not-file_ends c =
    endless _ c.file_starts.ensures c.past_blanks.ensures.place c.literal.ensures c.in_ok-root.was
    c.past_blanks-2.ensures.place _ _ _ c.read_request.ensures c.in_ok-progress.was c.file_ends.ensures c.if-not-file_ends.true

pub returns : goal.returns
returns c =
    file_read _ c.file_starts.ensures c.past_blanks.ensures.place c.literal.ensures c.in_ok-root.was
    c.past_blanks-2.ensures.place _ _ _ c.read_request.ensures c.in_ok-progress.was c.file_ends.ensures c.if-not-file_ends.false
