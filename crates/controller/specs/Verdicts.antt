-- The number of each error. Assumes nothing.
use Rattle.std.specs.Prelude.{ℕ}
use Rattle.controller.specs.declared.verdict.OperationError.{OperationError}
use Rattle.controller.specs.declared.verdict.OperationError.TheVariants.{NotSubscribed, NotAvailable, InvalidCallState, ResourceUnavailable, IllConferenceId, IllPartyId, NumberOfPartiesExceeded, NotActive, NotAllowed}

abbrev pub error_number : OperationError → ℕ
error_number NotSubscribed = 0
error_number NotAvailable = 3
error_number InvalidCallState = 7
error_number ResourceUnavailable = 11
error_number IllConferenceId = 28
error_number IllPartyId = 29
error_number NumberOfPartiesExceeded = 30
error_number NotActive = 31
error_number NotAllowed = 32
