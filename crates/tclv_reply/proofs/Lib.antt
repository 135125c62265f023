mod StackLemmas
mod ReplyLemmas
mod NameLemmas
mod TextLemmas
mod ShownLemmas
mod WordLemmas
mod StepLemmas
mod ListLemmas
mod MakingLemmas
mod VariableLemmas
mod OptionLemmas
mod OptionSteps
mod FoldLemmas
pub mod Laws
