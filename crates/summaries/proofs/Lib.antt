pub mod Summaries
pub mod SummaryForms
