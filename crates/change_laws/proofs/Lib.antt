mod Listed
mod Changes
