pub mod Arrivals
pub mod Summaries
pub mod SummaryForms
pub mod Cases
