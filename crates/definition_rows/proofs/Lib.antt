mod Lanes
mod Listed
mod HistoriesComputed
mod RootTests
mod CountsComputed
mod MarksComputed
mod LegalComputed
mod Happened
mod OrderedSteps
pub mod MailRows
